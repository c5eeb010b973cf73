-- The state of one policy of a checkpoint, taken further.
use Rattle.std.proofs.Common.{◌≡◌, ℕ, ◌<◌, List, length, Some, Option, slice_get, get_or, refl, subst, sym, ap, arith}
use Rattle.std.proofs.lemmas.Option.{slice_get_read, slice_get_within, slice_get-get_or}
use Rattle.crn_stock.specs.declared.policy.Policy.{Policy}
use Rattle.crn_stock.specs.Parts.{Parts}
use Rattle.crn_stock.specs.Models.{ScenarioParts}
use Rattle.crn_stock.specs.Stock.{At, OnwardAt}
use Rattle.crn_stock.proofs.Blocks.{at_then}
use Rattle.crn_sequential.specs.Runs.{StandsBefore, IsCheckpointOf, EachAt, EachOnward}

-- v is the state that policy i's state of `start` becomes at block `upto`
abbrev pub Ran : ScenarioParts → List Parts → ℕ → ℕ → Parts → Type 0
Ran s start upto i v = StandsBefore s.model upto v × ((p : Policy) (w : Parts) → slice_get s.policies i ≡ Some p → slice_get start i ≡ Some w → OnwardAt s.model p s.key w upto v)

pub same_of : {A : Type 0} (o : Option A) (a b : A) → o ≡ Some a → o ≡ Some b → a ≡ b
same_of o a b e f = cc

pub ran : (s : ScenarioParts) (start : List Parts) (upto i : ℕ) (p : Policy) (w v : Parts) → slice_get s.policies i ≡ Some p → slice_get start i ≡ Some w
    → StandsBefore s.model upto v → OnwardAt s.model p s.key w upto v → Ran s start upto i v
ran s start upto i p w v is_policy is_state stands onward = (
  stands,
  λ q u eq eu.
      let same_policy : p ≡ q = same_of (slice_get s.policies i) p q is_policy eq in
      let same_state : w ≡ u = same_of (slice_get start i) w u is_state eu in
      subst (λ (a : Parts). OnwardAt s.model q s.key a upto v) same_state (subst (λ (a : Policy). OnwardAt s.model a s.key w upto v) same_policy onward),
)

-- what is read at a policy's place in a list with a state for each policy is the state there
pub read_at : (xs : List Parts) (ps qs : List Policy) (i : ℕ) (x : Parts) → length xs ≡ length ps → qs ≡ ps → i < length qs → x ≡ get_or xs i x → slice_get xs i ≡ Some x
read_at xs ps qs i x count same inside is =
    slice_get_read xs (length xs) i x refl (omega (arith, count, ap length same, inside)) is

-- and what is read of the policies is the policy there
pub read_policy : (ps qs : List Policy) (i : ℕ) (x : Policy) → qs ≡ ps → i < length qs → x ≡ get_or qs i x → slice_get ps i ≡ Some x
read_policy ps qs i x same inside is = subst (λ (l : List Policy). slice_get l i ≡ Some x) same (slice_get_read qs (length qs) i x refl inside is)

-- states of a checkpoint that are at its block are at the block up to which they are taken onward
pub each_at : (s : ScenarioParts) (start states : List Parts) (from upto : ℕ) → IsCheckpointOf s from start → EachOnward s start upto states → EachAt s from start → EachAt s upto states
each_at s start states from upto checkpoint onward before i p v is_policy is_state =
    let w : Parts = get_or start i v in
    let begun : slice_get start i ≡ Some w = slice_get-get_or start i v (omega (arith, checkpoint.count, slice_get_within s.policies i p is_policy)) in
    at_then s.model p s.key upto w v (subst (λ (n : ℕ). At s.model p s.key n w) (sym (checkpoint.stand i w begun).next) (before i p w is_policy begun)) (onward i p w v is_policy begun is_state)
