-- The parts of a model that its sizes and its weights give.
use Rattle.std.specs.Prelude.{Option}
use Rattle.crn_draw.specs.Spread.{Weighted}
use Rattle.crn_stock.specs.Models.{ModelParts}
use Rattle.crn_checkpoint.specs.declared.read.scenario.Sizes.{Sizes}

abbrev pub model_parts_of : Sizes → Weighted → Weighted → Option Weighted → ModelParts
model_parts_of z demand lead returns = record {
  periods = z.periods;
  replications = z.replications;
  initial = z.initial;
  costs = z.costs;
  demand = demand;
  lead = lead;
  returns = returns;
}
