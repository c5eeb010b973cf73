use Rattle.std.proofs.Common.{◌≡◌, drop}
use Rattle.std.specs.List.{list_all}
use Rattle.toml.specs.View.{items_view}
use Rattle.crn_scenario.specs.Tree.{tables_of}
use Rattle.crn_scenario.specs.Reading.{has_levels_in_order}
use Rattle.crn_scenario.proofs.faults.have_levels_in_order.Given as goal

abbrev pub invariant-items : goal.invariant-items
invariant-items l = list_all has_levels_in_order (tables_of (items_view (drop l.item-index l.item-items))) ≡ list_all has_levels_in_order (tables_of (items_view l.item-items))
