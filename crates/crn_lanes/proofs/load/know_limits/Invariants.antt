use Rattle.std.proofs.Common.{◌≡◌, ℕ, ◌<◌, Some, slice_get}
use Rattle.crn_stock.specs.Parts.{Parts}
use Rattle.crn_lanes.specs.Inner.Groups.{IsInLimits}
use Rattle.crn_lanes.proofs.load.know_limits.Given as goal

abbrev pub invariant-loop-i : goal.invariant-loop-i
invariant-loop-i l = (j : ℕ) (v : Parts) → j < l.i → slice_get l.states j ≡ Some v → IsInLimits v
