use Rattle.std.proofs.Common.{◌≡◌, ◌<◌, ℕ, false, Some, slice_get}
use Rattle.crn_run.specs.declared.worker.PolicyEnd.{PolicyEnd}
use Rattle.crn_run.specs.Inner.Ends.{is_short}
use Rattle.crn_run.proofs.run.early_end.Given as goal

abbrev pub invariant-loop-i : goal.invariant-loop-i
invariant-loop-i l = (k : ℕ) (e : PolicyEnd) → k < l.i → slice_get l.ends k ≡ Some e → is_short e ≡ false
