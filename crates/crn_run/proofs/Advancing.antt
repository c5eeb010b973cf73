-- A state taken further, block by block.
use Rattle.std.proofs.Common.{◌≡◌, ℕ, ◌+◌, ◌<◌, ◌≤◌, List, Some, slice_get, refl, subst, sym, ◌∙◌, arith}
use Rattle.crn_cipher.specs.declared.stream.Block.{Block}
use Rattle.crn_cipher.specs.Following.{FollowOn}
use Rattle.crn_stock.specs.declared.policy.Policy.{Policy}
use Rattle.crn_stock.specs.Parts.{Parts}
use Rattle.crn_stock.specs.Models.{ModelParts, ScenarioParts}
use Rattle.crn_stock.specs.Stock.{Terms, terms_of, OnwardAt, HasTaken, next_block}
use Rattle.crn_stock.proofs.Blocks.{taken, at_then, onward_at_then}
use Rattle.crn_sequential.specs.Runs.{StandsBefore}
use Rattle.crn_run.specs.Ends.{IsRun}
use Rattle.crn_run.specs.Inner.Ends.{Advances}
use Rattle.crn_sequential.proofs.Running.{same_of}

-- no block
pub advances_none : (m : ModelParts) (p : Policy) (key : List ℕ) (v : Parts) → StandsBefore m (next_block v) v → Advances m p key v v
advances_none m p key v stands = record { stands = stands; onward = λ q h. h }

-- one block more
pub advances_more : (m : ModelParts) (p : Policy) (terms : Terms) (key : List ℕ) (u v w : Parts) (block : Block) → Advances m p key u v → HasTaken m terms block v w → terms ≡ terms_of p m.costs
    → block.key ≡ key → block.number ≡ next_block v → Advances m p key u w
advances_more m p terms key u v w block before has same of_key here =
    let on : OnwardAt m p key v (block.number + 1) w = subst (λ (k : List ℕ). OnwardAt m p k v (block.number + 1) w) of_key (taken m p terms block v w has same here) in
    record {
      stands = record { of_model = has.of_model; between = has.between; next = refl };
      onward = λ q h. onward_at_then m p key (next_block w) q v w (before.onward q h) (subst (λ (n : ℕ). OnwardAt m p key v n w) (sym has.next) on);
    }

-- one part of the blocks and then another
pub advances_then : (m : ModelParts) (p : Policy) (key : List ℕ) (u v w : Parts) → Advances m p key u v → Advances m p key v w → Advances m p key u w
advances_then m p key u v w a b = record { stands = b.stands; onward = λ q h. b.onward q (a.onward q h) }

-- where policy number k has advanced to block n, that is its run
pub advanced : (s : ScenarioParts) (k : ℕ) (p : Policy) (v w : Parts) (n : ℕ) → slice_get s.policies k ≡ Some p → ((m : ModelParts) (q : Policy) (key : List ℕ) → OnwardAt m q key v (next_block v) v)
    → Advances s.model p s.key v w → next_block w ≡ n → IsRun s k v n w
advanced s k p v w n is_policy itself advances there =
    let here : OnwardAt s.model p s.key v n w = subst (λ (i : ℕ). OnwardAt s.model p s.key v i w) there (advances.onward v (itself s.model p s.key)) in
    let onward : (q : Policy) → slice_get s.policies k ≡ Some q → OnwardAt s.model q s.key v n w =
    λ q eq. subst (λ (a : Policy). OnwardAt s.model a s.key v n w) (same_of (slice_get s.policies k) p q is_policy eq) here in
    record {
      stands = subst (λ (i : ℕ). StandsBefore s.model i w) there advances.stands;
      at = λ q eq h. at_then s.model q s.key n v w h (onward q eq);
      onward = onward;
    }

-- the block at place j of those that follow from a number on is the one that comes after j of them
pub next_follows : (key : List ℕ) (from j at count : ℕ) (blocks : List Block) (b : Block) → FollowOn key from count blocks → j < count → slice_get blocks j ≡ Some b → at ≡ from + j
    → (b.key ≡ key) × (b.number ≡ at)
next_follows key from j at count blocks b follow lt is here =
    let found = follow j b lt is in
    (found.0, found.1 ∙ sym here)

pub taken_on : (taken taken' at at' count : ℕ) → taken ≡ at → taken' ≡ taken + count → at' ≡ at + count → taken' ≡ at'
taken_on taken taken' at at' count here took went = omega arith

-- what was taken is the key's blocks from the state's next one on
pub follow_from : (key key' : List ℕ) (taken at count : ℕ) (blocks : List Block) → key ≡ key' → taken ≡ at → FollowOn key taken count blocks → FollowOn key' at count blocks
follow_from key key' taken at count blocks same here follow = subst (λ (k : List ℕ). FollowOn k at count blocks) same (subst (λ (i : ℕ). FollowOn key i count blocks) here follow)

-- a reader that has taken no more than the ring's total, which is none more than the scenario's
pub within_total : (taken taken' at count last all : ℕ) → taken ≡ at → taken' ≡ taken + count → taken' ≤ last → last ≤ all → at + count ≤ all
within_total taken taken' at count last all here took low high = omega arith
