use Rattle.std.proofs.Common.{sym, subst, arith, Option, rules}
use Rattle.std.proofs.lemmas.Int.{to_z-of_z}
use Rattle.toml.specs.Data.{Members}
use Rattle.toml.specs.View.{table_view}
use Rattle.crn_stock.specs.Models.{IsModel}
use Rattle.crn_scenario.specs.Inner.Reading.{AreDraws, MayBeDraws}
use Rattle.crn_scenario.proofs.Kept.{demand_draws, lead_draws, returns_draws, model_fits, periods, replications}
use Rattle.crn_scenario.proofs.scenario.model_of.Goals as goal

pub weights_of-requires : goal.weights_of-requires
weights_of-requires c = record { draws = subst (λ (o : Option Members). AreDraws o) (sym c.table_at.ensures) (demand_draws (table_view c.args.table.now) c.requires) }

pub weights_of-requires-2 : goal.weights_of-requires-2
weights_of-requires-2 c = record { draws = subst (λ (o : Option Members). AreDraws o) (sym c.table_at-2.ensures) (lead_draws (table_view c.args.table.now) c.requires) }

pub returns_of-requires : goal.returns_of-requires
returns_of-requires c = record { draws = subst (λ (o : Option Members). MayBeDraws o) (search rules) (returns_draws (table_view c.args.table.now) c.requires) }

pub overflow_cast-natural : goal.overflow_cast-natural
overflow_cast-natural c = let h = (periods (table_view c.args.table.now) c.requires).high_is in grind (arith, h, c.natural.ensures, c.integer_at.ensures)

pub overflow_cast-natural-2 : goal.overflow_cast-natural-2
overflow_cast-natural-2 c = let h = (replications (table_view c.args.table.now) c.requires).high_is in grind (arith, h, c.natural-2.ensures, c.integer_at-2.ensures)

pub new-requires : goal.new-requires
new-requires c = subst IsModel (sym (search (rules, to_z-of_z))) (model_fits (table_view c.args.table.now) c.requires)
