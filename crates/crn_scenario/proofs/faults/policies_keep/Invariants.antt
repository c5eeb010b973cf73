use Rattle.std.proofs.Common.{◌≡◌, drop}
use Rattle.std.specs.List.{list_all}
use Rattle.toml.specs.View.{items_view}
use Rattle.crn_scenario.specs.Tree.{tables_of}
use Rattle.crn_scenario.specs.Fields.{keeps, keys_of, policy}
use Rattle.crn_scenario.proofs.faults.policies_keep.Given as goal

abbrev pub invariant-items : goal.invariant-items
invariant-items l = list_all (keeps l.rule (keys_of l.version policy)) (tables_of (items_view (drop l.item-index l.item-items))) ≡ list_all (keeps l.rule (keys_of l.version policy)) (tables_of (items_view l.item-items))
