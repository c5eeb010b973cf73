use Rattle.std.proofs.Common.{◌≡◌, drop, None}
use Rattle.toml.specs.View.{items_view}
use Rattle.crn_scenario.specs.Tree.{integers_of}
use Rattle.crn_scenario.specs.Reading.{rise_above}
use Rattle.crn_scenario.proofs.faults.rise.Given as goal

abbrev pub invariant-items : goal.invariant-items
invariant-items l = rise_above l.last (integers_of (items_view (drop l.item-index l.item-items))) ≡ rise_above None (integers_of (items_view l.item-items))
