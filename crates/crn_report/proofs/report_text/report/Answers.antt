use Rattle.std.proofs.Common.{◌≡◌, subst, sym, List, ℕ, Some, slice_get}
use Rattle.crn_stock.specs.Parts.{Parts}
use Rattle.crn_stock.specs.Models.{total}
use Rattle.crn_sequential.specs.Runs.{StandsBefore}
use Rattle.crn_report.proofs.report_text.report.Goals as goal

pub all_figures-requires : goal.all_figures-requires
all_figures-requires c = record {
  stand = subst (λ (vs : List Parts). (i : ℕ) (v : Parts) → slice_get vs i ≡ Some v → StandsBefore c.args.scenario.now.model (total c.args.scenario.now.model) v)
      (sym c.deref.ensures.value) c.requires.of.stand;
}
