-- The run of one policy between two blocks, and whether the end was marked early.
use Rattle.std.specs.Prelude.{◌≡◌, ℕ, Bool, true, false, List, Some, slice_get}
use Rattle.std.specs.List.{list_any}
use Rattle.crn_stock.specs.Parts.{Parts}
use Rattle.crn_stock.specs.Models.{ModelParts}
use Rattle.crn_stock.specs.Stock.{OnwardAt, next_block}
use Rattle.crn_stock.specs.declared.policy.Policy.{Policy}
use Rattle.crn_sequential.specs.Runs.{StandsBefore}
use Rattle.crn_run.specs.Ends.{is_held}
use Rattle.crn_run.specs.Faults.{found_end}
use Rattle.crn_run.specs.declared.fault.ThreadFault.{ThreadFault}
use Rattle.crn_run.specs.declared.worker.PolicyEnd.{PolicyEnd}
use Rattle.crn_run.specs.declared.worker.PolicyEnd.TheVariants.{Reached, Short, Held}

-- whether the end was marked early
abbrev pub is_short : PolicyEnd → Bool
is_short (Reached w x) = false
is_short (Short n w x) = true
is_short (Held w x) = false

-- the fault is that of an end that was marked early
abbrev pub IsEarlyEnd : ThreadFault → PolicyEnd → Type 0
IsEarlyEnd f (Short n w x) = found_end f.cause ≡ Some n
IsEarlyEnd f _ = ⊥

-- each has reached the end of the ring
abbrev pub AllReached : List PolicyEnd → Type 0
AllReached ends = (list_any is_short ends ≡ false) × (list_any is_held ends ≡ false)

-- one of them was marked early, as the fault says
pub record HasEarly (f : ThreadFault) (ends : List PolicyEnd) : Type 0 where
  pub place : ℕ
  pub end : PolicyEnd
  pub is_end : slice_get ends place ≡ Some end
  pub early : IsEarlyEnd f end

-- ---- between two blocks of a run

-- w is what v becomes by the blocks from its next one on: what v is onward from, w is onward from
pub record Advances (m : ModelParts) (p : Policy) (key : List ℕ) (v w : Parts) : Type 0 where
  pub stands : StandsBefore m (next_block w) w
  pub onward : (q : Parts) → OnwardAt m p key q (next_block v) v → OnwardAt m p key q (next_block w) w
