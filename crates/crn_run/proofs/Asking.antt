-- What a gate was asked, call by call.
use Rattle.std.proofs.Common.{◌≡◌, ℕ, zero, suc, ◌+◌, Bool, true, false, refl, subst, arith}
use Rattle.crn_run.specs.Gates.{HasPassed, HeldAt, PassedUpTo}

module _ {Gate : Type 0} (asked : Gate → ℕ → ℕ → Bool → Gate → Type 0) (k : ℕ) where
  -- no call
  pub passed_none : (n : ℕ) (g : Gate) → PassedUpTo asked k n n g g
  passed_none n g = record { count = 0; place = omega arith; passed = refl }

  -- one call more that it passes
  pub passed_next : (n m m' b : ℕ) (g g' h : Gate) → PassedUpTo asked k n m g g' → b ≡ m → m' ≡ b + 1 → asked g' k b true h → PassedUpTo asked k n m' g h
  passed_next n m m' b g g' h before here there answer =
      let place : b ≡ n + before.count = omega (arith, here, before.place) in
      record {
        count = suc before.count;
        place = omega (arith, there, place);
        passed = (g', before.passed, subst (λ (i : ℕ). asked g' k i true h) place answer);
      }

  -- one call more that it does not pass
  pub held_next : (n m b : ℕ) (g g' h : Gate) → PassedUpTo asked k n m g g' → b ≡ m → asked g' k b false h → HeldAt asked k n m g h
  held_next n m b g g' h before here answer = record { between = g'; before = before; answer = subst (λ (i : ℕ). asked g' k i false h) here answer }

  -- some calls after others
  more : (n m a b : ℕ) (g g' h : Gate) → m ≡ n + a → HasPassed asked k n a g g' → HasPassed asked k m b g' h → HasPassed asked k n (a + b) g h
  more n m a zero g g' h place first after =
      let all : HasPassed asked k n a g h = subst (λ (x : Gate). HasPassed asked k n a g x) after first in
      let count : a ≡ a + 0 = omega arith in
      subst (λ (i : ℕ). HasPassed asked k n i g h) count all
  more n m a (suc b) g g' h place first after =
      let all : HasPassed asked k n (a + b) g after.0 = more n m a b g g' after.0 place first after.1 in
      let there : m + b ≡ n + (a + b) = omega (arith, place) in
      let last : asked after.0 k (n + (a + b)) true h = subst (λ (i : ℕ). asked after.0 k i true h) there after.2 in
      let whole : HasPassed asked k n (suc (a + b)) g h = (after.0, all, last) in
      let count : suc (a + b) ≡ a + suc b = omega arith in
      subst (λ (i : ℕ). HasPassed asked k n i g h) count whole

  pub passed_then : (n m l : ℕ) (g g' h : Gate) → PassedUpTo asked k n m g g' → PassedUpTo asked k m l g' h → PassedUpTo asked k n l g h
  passed_then n m l g g' h first after = record {
    count = first.count + after.count;
    place = omega (arith, first.place, after.place);
    passed = more n m first.count after.count g g' h first.place first.passed after.passed;
  }

  pub held_then : (n m l : ℕ) (g g' h : Gate) → PassedUpTo asked k n m g g' → HeldAt asked k m l g' h → HeldAt asked k n l g h
  held_then n m l g g' h first after = record { between = after.between; before = passed_then n m l g g' after.between first after.before; answer = after.answer }
