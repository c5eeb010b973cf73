use Rattle.std.proofs.Common.{◌≡◌, drop}
use Rattle.toml.specs.View.{items_view}
use Rattle.crn_scenario.specs.Tree.{integers_of}
use Rattle.crn_scenario.specs.Fields.{are_within}
use Rattle.crn_scenario.proofs.fields.are_within.Given as goal

abbrev pub invariant-items : goal.invariant-items
invariant-items l = are_within l.low l.high (integers_of (items_view (drop l.item-index l.item-items))) ≡ are_within l.low l.high (integers_of (items_view l.item-items))
