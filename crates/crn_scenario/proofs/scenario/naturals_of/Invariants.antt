use Rattle.std.proofs.Common.{◌≡◌, ◌++◌, map, drop, true, nat_abs, pos}
use Rattle.crn_draw.specs.declared.weights.TheConstants.{TOTAL_LIMIT}
use Rattle.toml.specs.View.{items_view}
use Rattle.crn_scenario.specs.Tree.{integers_of}
use Rattle.crn_scenario.specs.Fields.{are_within}
use Rattle.crn_scenario.proofs.scenario.naturals_of.Given as goal

abbrev pub invariant-items : goal.invariant-items
invariant-items l = record {
  made : l.naturals.items ++ map nat_abs (integers_of (items_view (drop l.item-index l.item-items))) ≡ map nat_abs (integers_of (items_view l.item-items));
  within : are_within (pos 0) (pos TOTAL_LIMIT) (integers_of (items_view (drop l.item-index l.item-items))) ≡ true;
}
