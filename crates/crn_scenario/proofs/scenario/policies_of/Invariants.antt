use Rattle.std.proofs.Common.{◌≡◌, ◌++◌, map, drop}
use Rattle.toml.specs.View.{items_view}
use Rattle.crn_scenario.specs.Tree.{tables_of}
use Rattle.crn_scenario.specs.Reading.{policy_of}
use Rattle.crn_scenario.proofs.scenario.policies_of.Given as goal

abbrev pub invariant-items : goal.invariant-items
invariant-items l = l.policies.items ++ map policy_of (tables_of (items_view (drop l.item-index l.item-items))) ≡ map policy_of (tables_of (items_view l.item-items))
