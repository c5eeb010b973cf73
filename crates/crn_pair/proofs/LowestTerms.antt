-- A fraction after its terms are divided by their greatest common divisor.
use Rattle.std.proofs.Common.{◌≡◌, ℕ, zero, suc, ◌*◌, ◌/◌, ◌%◌, ◌<◌, ◌≤◌, ℤ, pos, negsuc, neg_ℤ, ◌*ℤ◌, unsigned_abs, int_div, int_rem, arith, refl, sym, ap, subst, ◌∙◌}
use Rattle.std.proofs.lemmas.Int.{ints, quot-rem, unsigned_abs-mul}
use Rattle.std.proofs.lemmas.Nat.Gcd.{dvd_antisymm, mod-eq-zero_of_dvd}
use Rattle.std.proofs.Math.Nat.{div-mul_cancel, mul-dvd-mul_right, dvd_of_mul-dvd-mul_right, one-dvd}
use Rattle.std.specs.Int.{IsGcd}
use Rattle.crn_pair.specs.LowestTerms.{AreInLowestTerms}
use Prim.Native.Nat.{◌∣◌}

rem_none : (z : ℤ) (d : ℕ) → unsigned_abs z % d ≡ 0 → int_rem z (pos d) ≡ pos 0
rem_none (pos a) d e = ap pos e
rem_none (negsuc a) d e = ap (λ (n : ℕ). neg_ℤ (pos n)) e

pub exact : (z : ℤ) (d : ℕ) → d ∣ unsigned_abs z → int_div z (pos d) *ℤ pos d ≡ z
exact z d h =
    let none : int_rem z (pos d) ≡ pos 0 = rem_none z d (mod-eq-zero_of_dvd d h) in
    omega (arith, ints, quot-rem z (pos d), none)

neg-mul : (m r : ℕ) → neg_ℤ (pos m) *ℤ pos r ≡ neg_ℤ (pos (m * r))
neg-mul zero r = omega (arith, ints)
neg-mul (suc m) r = refl

regroup : (q : ℤ) (r g : ℕ) → q *ℤ pos (r * g) ≡ (q *ℤ pos g) *ℤ pos r
regroup (pos n) r g = ap pos (omega arith)
regroup (negsuc n) r g =
    let products : suc n * (r * g) ≡ suc n * g * r = omega arith in
    ap (λ (m : ℕ). neg_ℤ (pos m)) products ∙ sym (neg-mul (suc n * g) r)

positive : (r g den : ℕ) → r * g ≡ den → 1 ≤ den → 1 ≤ r
positive zero g den e some = absurd (omega arith)
positive (suc r) g den e some = omega arith

pub positive_divisor : (n d : ℕ) → d ∣ n → 1 ≤ n → 1 ≤ d
positive_divisor n d h some = positive d (n / d) n (omega (arith, div-mul_cancel d h)) some

-- the terms num and den over their greatest common divisor g are q and r
module _ (num q : ℤ) (den r g : ℕ) (of_num : q *ℤ pos g ≡ num) (of_den : r * g ≡ den) (some : 1 ≤ den) where
  pub den_some : 1 ≤ r
  den_some = positive r g den of_den some

  pub same : q *ℤ pos den ≡ num *ℤ pos r
  same = ap (λ (m : ℕ). q *ℤ pos m) (sym of_den) ∙ regroup q r g ∙ ap (λ (z : ℤ). z *ℤ pos r) of_num

  pub lowest : IsGcd (unsigned_abs num) den g → AreInLowestTerms q r
  lowest (divides_num, divides_den, greatest) d divides_q divides_r =
      let of_size : unsigned_abs q * g ≡ unsigned_abs num = sym (unsigned_abs-mul q (pos g)) ∙ ap unsigned_abs of_num in
      let into_num : d * g ∣ unsigned_abs num = subst (λ (m : ℕ). d * g ∣ m) of_size (mul-dvd-mul_right d divides_q g) in
      let into_den : d * g ∣ den = subst (λ (m : ℕ). d * g ∣ m) of_den (mul-dvd-mul_right d divides_r g) in
      let into_one : d * g ∣ 1 * g = subst (λ (m : ℕ). d * g ∣ m) (omega arith) (greatest (d * g) into_num into_den) in
      let positive_g : 0 < g = positive g r den (omega (arith, of_den)) some in
      dvd_antisymm (dvd_of_mul-dvd-mul_right d positive_g into_one) (one-dvd d)
