use Rattle.std.proofs.Common.{◌≡◌, drop, pos, ◌*◌, ◌^◌, ◌+ℤ◌, ◌≤ℤ◌}
use Rattle.toml.specs.View.{items_view}
use Rattle.crn_scenario.specs.Tree.{integers_of}
use Rattle.crn_scenario.specs.Reading.{total_of}
use Rattle.crn_scenario.proofs.faults.total_of.Given as goal

abbrev pub invariant-items : goal.invariant-items
invariant-items l = record {
  made : l.total +ℤ total_of (integers_of (items_view (drop l.item-index l.item-items))) ≡ total_of (integers_of (items_view l.item-items));
  low : pos 0 ≤ℤ (l.total +ℤ pos (l.item-index * 2 ^ 63));
  high : l.total ≤ℤ pos (l.item-index * 2 ^ 63);
}
