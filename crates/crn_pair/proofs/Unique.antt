-- A quotient has just one fraction in lowest terms.
use Rattle.std.proofs.Common.{mul-div_cancel, ◌≡◌, ℕ, zero, suc, ◌+◌, ◌*◌, ◌/◌, ◌%◌, ◌<◌, ◌≤◌, ℤ, pos, ◌*ℤ◌, unsigned_abs, arith, refl, sym, ap, subst, ◌∙◌}
use Rattle.std.proofs.lemmas.Int.{ints, unsigned_abs-mul}
use Rattle.std.proofs.lemmas.Nat.Gcd.{IsGcd-from_zero, IsGcd-from_mod, same_from_IsGcd}
use Rattle.std.proofs.Math.Nat.{div-add-mod, mul-le-mul_left, mod-lt, mod-eq_of_lt, add-mul-mod_self_right}
use Rattle.std.specs.Int.{IsGcd}
use Rattle.crn_pair.specs.LowestTerms.{AreInLowestTerms}
use Rattle.crn_pair.specs.Pairs.{IsQuotient}
use Rattle.crn_pair.specs.declared.fraction.Fraction.{Fraction}
use borrow.Author.Differences.{up, down}

cancel : (m n k : ℕ) → 1 ≤ k → m * k ≡ n * k → m ≡ n
cancel m n k some e = sym (mul-div_cancel m {n = k} (omega arith)) ∙ ap (λ (x : ℕ). x / k) e ∙ mul-div_cancel n {n = k} (omega arith)

mod_div : (a b : ℕ) → a ≡ a % b + a / b * b
mod_div a b = omega (arith, div-add-mod a b)

-- a remainder of numbers that are all taken k times
times_mod : (a b k : ℕ) → 0 < b → 0 < k → a * k % (b * k) ≡ a % b * k
times_mod a b k some_b some_k =
    let whole : a * k ≡ a % b * k + a / b * (b * k) = omega (arith, ap (λ (n : ℕ). n * k) (mod_div a b)) in
    let above = mul-le-mul_left k (mod-lt a {m = b} some_b) in
    let low : a % b * k < b * k = omega (arith, above, some_k) in
    ap (λ (n : ℕ). n % (b * k)) whole ∙ add-mul-mod_self_right (a % b * k) (a / b) (b * k) ∙ mod-eq_of_lt low

-- a greatest common divisor, which stays one where all three numbers are taken k times
record Divisor (a b : ℕ) : Type 0 where
  g : ℕ
  is : IsGcd a b g
  times : (k : ℕ) → 0 < k → IsGcd (a * k) (b * k) (g * k)

euclid : (fuel a b : ℕ) → b < fuel → Divisor a b
euclid zero a b enough = absurd (omega arith)
euclid (suc fuel) a zero enough = record { g = a; is = IsGcd-from_zero a 0 refl; times = λ k some. IsGcd-from_zero (a * k) (0 * k) (omega arith) }
euclid (suc fuel) a (suc b) enough =
    let rest = euclid fuel (suc b) (a % suc b) (omega (arith, mod-lt a {m = suc b} (omega arith))) in
    record {
      g = rest.g;
      is = IsGcd-from_mod a (suc b) rest.g rest.is;
      times = λ k some. IsGcd-from_mod (a * k) (suc b * k) (rest.g * k)
          (subst (λ (n : ℕ). IsGcd (suc b * k) n (rest.g * k)) (sym (times_mod a (suc b) k (omega arith) some)) (rest.times k some));
    }

-- of the lowest terms of num / den, the denominator is den over the greatest common divisor of both
den_is : (num q : ℤ) (den r : ℕ) (d : Divisor (unsigned_abs num) den) → 1 ≤ den → 1 ≤ r → AreInLowestTerms q r → q *ℤ pos den ≡ num *ℤ pos r → den ≡ d.g * r
den_is num q den r d some some_r lowest e =
    let sizes : unsigned_abs q * den ≡ unsigned_abs num * r = sym (unsigned_abs-mul q (pos den)) ∙ ap unsigned_abs e ∙ unsigned_abs-mul num (pos r) in
    let apart = euclid (suc r) (unsigned_abs q) r (omega arith) in
    let one : apart.g ≡ 1 = lowest apart.g apart.is.0 apart.is.1 in
    let of_q : IsGcd (unsigned_abs q * den) (r * den) (apart.g * den) = apart.times den some in
    let of_num : IsGcd (unsigned_abs num * r) (den * r) (d.g * r) = d.times r some_r in
    let turned : IsGcd (unsigned_abs q * den) (r * den) (d.g * r) = subst (λ (n : ℕ). IsGcd n (r * den) (d.g * r)) (sym sizes) (subst (λ (n : ℕ). IsGcd (unsigned_abs num * r) n (d.g * r)) (omega arith) of_num) in
    omega (arith, same_from_IsGcd (unsigned_abs q * den) (r * den) (apart.g * den) (d.g * r) of_q turned, ap (λ (n : ℕ). n * den) one)

cancel_ℤ : (x y : ℤ) (k : ℕ) → 1 ≤ k → x *ℤ pos k ≡ y *ℤ pos k → x ≡ y
cancel_ℤ x y k some e =
    let sums : (up x + down y) * k ≡ (up y + down x) * k = omega (arith, ints, e) in
    let same = cancel (up x + down y) (up y + down x) k some sums in
    omega (arith, ints, same)

pub same_den : (num : ℤ) (den : ℕ) (f g : Fraction) → 1 ≤ den → IsQuotient num den f → IsQuotient num den g → f.den ≡ g.den
same_den num den f g some e_f e_g =
    let d = euclid (suc den) (unsigned_abs num) den (omega arith) in
    let of_f : den ≡ d.g * f.den = den_is num f.num den f.den d some f.some f.lowest e_f in
    let of_g : den ≡ d.g * g.den = den_is num g.num den g.den d some g.some g.lowest e_g in
    let positive : 1 ≤ d.g = some_factor d.g f.den (subst (λ (n : ℕ). 1 ≤ n) of_f some) in
    cancel f.den g.den d.g positive (omega (arith, of_f, of_g))
  where
    some_factor : (m n : ℕ) → 1 ≤ m * n → 1 ≤ m
    some_factor zero n h = absurd (omega arith)
    some_factor (suc m) n h = omega arith

pub same_num : (num : ℤ) (den : ℕ) (f g : Fraction) → 1 ≤ den → IsQuotient num den f → IsQuotient num den g → f.num ≡ g.num
same_num num den f g some e_f e_g =
    let dens : num *ℤ pos f.den ≡ num *ℤ pos g.den = ap (λ (n : ℕ). num *ℤ pos n) (same_den num den f g some e_f e_g) in
    cancel_ℤ f.num g.num den some (e_f ∙ dens ∙ sym e_g)
