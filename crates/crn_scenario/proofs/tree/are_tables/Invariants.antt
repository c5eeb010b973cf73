use Rattle.std.proofs.Common.{◌≡◌, drop}
use Rattle.toml.specs.View.{items_view}
use Rattle.crn_scenario.specs.Tree.{are_tables}
use Rattle.crn_scenario.proofs.tree.are_tables.Given as goal

abbrev pub invariant-items : goal.invariant-items
invariant-items l = are_tables (items_view (drop l.item-index l.item-items)) ≡ are_tables (items_view l.item-items)
