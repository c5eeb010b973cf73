use Rattle.std.proofs.Common.{◌≡◌, ◌++◌, ℕ, List, Some, drop, length, take, slice_get}
use Rattle.crn_stock.specs.declared.policy.Policy.{Policy}
use Rattle.crn_stock.specs.Parts.{Parts}
use Rattle.crn_sequential.specs.Runs.{StandsBefore}
use Rattle.crn_checkpoint.specs.CheckpointText.{all_policy_rows}
use Rattle.crn_checkpoint.specs.Inner.Amounts.{ArePoliciesOf}
use Rattle.crn_checkpoint.proofs.read.policy.policies_of.Given as goal

abbrev pub invariant-loop-turn : goal.invariant-loop-turn
invariant-loop-turn l = record {
  reads : (ps : List Policy) (vs : List Parts) (rest : List (List (List ℕ))) → ArePoliciesOf l.model l.next ps vs → l.count ≡ length ps → l.rows ≡ all_policy_rows ps vs ++ rest
      → (l.rest ≡ all_policy_rows (drop l._turn ps) (drop l._turn vs) ++ rest) × (l.found.policies.items ≡ take l._turn ps) × (l.found.states.items ≡ take l._turn vs);
  count : length l.found.states.items ≡ length l.found.policies.items;
  stand : (i : ℕ) (v : Parts) → slice_get l.found.states.items i ≡ Some v → StandsBefore l.model l.next v;
}
