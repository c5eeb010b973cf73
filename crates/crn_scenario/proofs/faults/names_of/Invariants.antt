use Rattle.std.proofs.Common.{◌≡◌, ◌++◌, map, drop}
use Rattle.toml.specs.View.{items_view}
use Rattle.crn_scenario.specs.Reading.{names_in}
use Rattle.crn_scenario.proofs.faults.names_of.Given as goal

abbrev pub invariant-items : goal.invariant-items
invariant-items l = map (λ n. n.now) l.names.items ++ names_in (items_view (drop l.item-index l.item-items)) ≡ names_in (items_view l.item-items)
