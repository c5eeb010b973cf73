-- Where a run stops whose gates count blocks.
use Rattle.std.proofs.Common.{◌≡◌, ℕ, zero, suc, ◌+◌, ◌≤◌, ◌<◌, Bool, List, [], ◌∷◌, Some, length, slice_get, All, ap, subst, refl, arith}
use Rattle.std.proofs.lemmas.Option.{get_or_from_slice_get, slice_get_within}
use Rattle.std.specs.Prelude.{min}
use Rattle.crn_run.specs.Gates.{AllPassed, HasPassed, HeldAt, PassedUpTo, SomeHeld}
use Rattle.uses.specs.Budgets.{Spends}
use Rattle.uses.specs.declared.checkpoint.Budget.{Budget}

-- each call that passes takes one block off what is left
spent : (k n count : ℕ) (g g' : Budget) → HasPassed Spends k n count g g' → g.left ≡ g'.left + count
spent k n zero g g' h = omega (arith, ap (λ (b : Budget). b.left) h)
spent k n (suc count) g g' h = omega (arith, spent k n count g h.0 h.1, h.2)

passed_all : (k upto : ℕ) (g g' : Budget) → PassedUpTo Spends k 0 upto g g' → upto ≤ g.left
passed_all k upto g g' h = omega (arith, spent k 0 h.count g g' h.passed, h.place)

held_at : (k m : ℕ) (g g' : Budget) → HeldAt Spends k 0 m g g' → g.left ≡ m
held_at k m g g' h = omega (arith, spent k 0 h.before.count g h.between h.before.passed, h.before.place, h.answer)

-- what holds of all gates holds of each
at : (P : Budget → Type 0) (gates : List Budget) (k : ℕ) (g : Budget) → All P gates → slice_get gates k ≡ Some g → P g
at P gates k g all is = subst P (get_or_from_slice_get gates k g g is) (all k g (slice_get_within gates k g is))

-- if all policies have passed, there are no more blocks than their gates let pass
pub none_stopped : (refused : Budget → Bool) (blocks total first upto : ℕ) (gates : List Budget) → first ≡ 0 → upto ≡ total → All (λ g. g.left ≡ blocks) gates → 0 < length gates
    → AllPassed refused Spends first upto gates → upto ≡ min blocks total
none_stopped refused blocks total first upto [] begun there left some all = absurd (omega (arith, some))
none_stopped refused blocks total first upto (g ∷ gates) begun there left some all =
    let its = subst (λ (n : ℕ). AllPassed refused Spends n upto (g ∷ gates)) begun all 0 g refl in
    omega (arith, there, passed_all 0 upto g its.0 its.1, at (λ b. b.left ≡ blocks) (g ∷ gates) 0 g left refl)

-- if one was held, it was after as many as its gate lets pass, and there are more
pub one_stopped : (refused : Budget → Bool) (blocks total first upto : ℕ) (gates : List Budget) → first ≡ 0 → upto ≡ total → All (λ g. g.left ≡ blocks) gates
    → SomeHeld refused Spends first upto gates → blocks ≡ min blocks total
one_stopped refused blocks total first upto gates begun there left some =
    let h : SomeHeld refused Spends 0 upto gates = subst (λ (n : ℕ). SomeHeld refused Spends n upto gates) begun some in
    omega (arith, there, held_at h.policy h.block h.gate h.gate' h.held, at (λ b. b.left ≡ blocks) gates h.policy h.gate left h.is_gate, h.below)
