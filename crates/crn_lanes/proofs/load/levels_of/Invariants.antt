use Rattle.std.proofs.Common.{◌≡◌, ◌≤◌, ◌≤ℤ◌, Some, length, slice_get, slice_index}
use Rattle.crn_stock.specs.declared.policy.Policy.{Policy}
use Rattle.crn_stock.specs.declared.limits.TheConstants.{LEVEL_LIMIT}
use Rattle.crn_lanes.specs.Inner.Lanes.{IsRowOf, unbiased}
use Rattle.crn_lanes.specs.Inner.Groups.{seat}
use Rattle.crn_lanes.specs.declared.arithmetic.TheConstants.{BIAS}
use Rattle.crn_lanes.proofs.load.levels_of.Given as goal

abbrev pub invariant-loop-k : goal.invariant-loop-k
invariant-loop-k l =
    IsRowOf (λ k x. ((p : Policy) → slice_get l.policies (seat (length l.policies) k) ≡ Some p → unbiased x ≡ p.low) × (BIAS ≤ x)) l.k l.low

abbrev pub invariant-loop-j : goal.invariant-loop-j
invariant-loop-j l =
    IsRowOf (λ k x. ((p : Policy) → slice_get l.policies (seat (length l.policies) k) ≡ Some p → unbiased x ≡ p.high) × (slice_index l.low k ≤ x) × (unbiased x ≤ℤ LEVEL_LIMIT)) l.j l.high
