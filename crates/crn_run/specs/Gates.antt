-- What a policy's gate was asked. `asked` is what the gate's type says of one call: of the value before, the policy, the
-- block, the answer and the value after. A type that says nothing there, or of each call alike, tells no calls apart.
use Rattle.std.specs.Prelude.{◌≡◌, ℕ, zero, suc, ◌+◌, ◌<◌, Bool, true, false, List, Some, slice_get}
use Rattle.crn_stock.specs.Stock.{next_block}
use Rattle.crn_run.specs.declared.worker.PolicyEnd.{PolicyEnd}
use Rattle.crn_run.specs.declared.worker.PolicyEnd.TheVariants.{Reached, Short, Held}

-- gate' is what `count` calls make of the gate, for policy k's blocks from n on, in order and all passed
abbrev pub HasPassed : {Gate : Type 0} → (Gate → ℕ → ℕ → Bool → Gate → Type 0) → ℕ → ℕ → ℕ → Gate → Gate → Type 0
HasPassed asked k n zero gate gate' = gate ≡ gate'
HasPassed {Gate} asked k n (suc count) gate gate' = (between : Gate) × HasPassed asked k n count gate between × asked between k (n + count) true gate'

-- so up to block m
pub record PassedUpTo {Gate : Type 0} (asked : Gate → ℕ → ℕ → Bool → Gate → Type 0) (k n m : ℕ) (gate gate' : Gate) : Type 0 where
  pub count : ℕ
  pub place : m ≡ n + count
  pub passed : HasPassed asked k n count gate gate'

-- so up to block m, and then one call for that block, which is not passed
pub record HeldAt {Gate : Type 0} (asked : Gate → ℕ → ℕ → Bool → Gate → Type 0) (k n m : ℕ) (gate gate' : Gate) : Type 0 where
  pub between : Gate
  pub before : PassedUpTo asked k n m gate between
  pub answer : asked between k m false gate'

-- the calls that make gate' of policy k's gate in a run from block n on, by its end
abbrev pub WasAsked : {Gate : Type 0} → (Gate → ℕ → ℕ → Bool → Gate → Type 0) → ℕ → ℕ → PolicyEnd → Gate → Gate → Type 0
WasAsked asked k n (Reached w x) gate gate' = PassedUpTo asked k n (next_block w) gate gate'
WasAsked asked k n (Short m w x) gate gate' = PassedUpTo asked k n (next_block w) gate gate'
WasAsked asked k n (Held w x) gate gate' = HeldAt asked k n (next_block w) gate gate'

-- from each policy's gate such calls, for its blocks from `first` to upto - 1, lead to a value that has not refused. That the
-- gate ends with it, no contract can say
abbrev pub AllPassed : {Gate : Type 0} → (Gate → Bool) → (Gate → ℕ → ℕ → Bool → Gate → Type 0) → ℕ → ℕ → List Gate → Type 0
AllPassed {Gate} refused asked first upto gates = (k : ℕ) (gate : Gate) → slice_get gates k ≡ Some gate → (gate' : Gate) × PassedUpTo asked k first upto gate gate' × (refused gate' ≡ false)

-- from some policy's gate such calls lead to a value that has refused, at a block below `upto`
pub record SomeHeld {Gate : Type 0} (refused : Gate → Bool) (asked : Gate → ℕ → ℕ → Bool → Gate → Type 0) (first upto : ℕ) (gates : List Gate) : Type 0 where
  pub policy : ℕ
  pub gate : Gate
  pub gate' : Gate
  pub is_gate : slice_get gates policy ≡ Some gate
  pub block : ℕ
  pub below : block < upto
  pub held : HeldAt asked policy first block gate gate'
  pub has_refused : refused gate' ≡ true

-- from policy k's gate such calls lead to a value: up to block `upto` or, if it has refused, up to a block below
pub record PassedOrHeld {Gate : Type 0} (refused : Gate → Bool) (asked : Gate → ℕ → ℕ → Bool → Gate → Type 0) (k first upto : ℕ) (gate : Gate) : Type 0 where
  pub gate' : Gate
  pub passed : refused gate' ≡ false → PassedUpTo asked k first upto gate gate'
  pub held : refused gate' ≡ true → (block : ℕ) × (block < upto) × HeldAt asked k first block gate gate'

-- so from each policy's gate
abbrev pub AllPassedOrHeld : {Gate : Type 0} → (Gate → Bool) → (Gate → ℕ → ℕ → Bool → Gate → Type 0) → ℕ → ℕ → List Gate → Type 0
AllPassedOrHeld {Gate} refused asked first upto gates = (k : ℕ) (gate : Gate) → slice_get gates k ≡ Some gate → PassedOrHeld refused asked k first upto gate
