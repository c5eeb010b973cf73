-- Sums over pairs of places come to sums over places.
use Rattle.std.proofs.Common.{◌≡◌, ℕ, suc, ◌*◌, ℤ, pos, ◌*ℤ◌, ◌+ℤ◌, ◌-ℤ◌, List, [], ◌∷◌, length, arith, ap, ◌∙◌}
use Rattle.std.proofs.lemmas.Int.{ints}
use Rattle.std.proofs.Math.IntN.{*ℤ_comm, suc_ℤ-*ℤ}
use borrow.Author.Differences.{up, down, sum_is_lem}
use Rattle.crn_pair.specs.Inner.Places.{products}
use Rattle.crn_pair.specs.Pairs.{signed_sum, against, over_pairs}

sum_left : (a b c : ℤ) → (a +ℤ b) *ℤ c ≡ a *ℤ c +ℤ b *ℤ c
sum_left a b c =
    let h = ap (λ (n : ℕ). n * up c) (sum_is_lem a b) in
    let k = ap (λ (n : ℕ). n * down c) (sum_is_lem a b) in
    omega (arith, ints, h, k)

sum_right : (a b c : ℤ) → a *ℤ (b +ℤ c) ≡ a *ℤ b +ℤ a *ℤ c
sum_right a b c = *ℤ_comm a (b +ℤ c) ∙ sum_left b c a ∙ omega (arith, ints, *ℤ_comm a b, *ℤ_comm a c)

difference_left : (a b c : ℤ) → (a -ℤ b) *ℤ c ≡ a *ℤ c -ℤ b *ℤ c
difference_left a b c =
    let h = sum_left (a -ℤ b) b c in
    let back : (a -ℤ b) +ℤ b ≡ a = omega (arith, ints) in
    let whole = ap (λ (z : ℤ). z *ℤ c) back in
    omega (arith, ints, h, whole)

difference_right : (a b c : ℤ) → a *ℤ (b -ℤ c) ≡ a *ℤ b -ℤ a *ℤ c
difference_right a b c = *ℤ_comm a (b -ℤ c) ∙ difference_left b c a ∙ omega (arith, ints, *ℤ_comm a b, *ℤ_comm a c)

one_more : (n : ℕ) (z : ℤ) → pos (suc n) *ℤ z ≡ pos n *ℤ z +ℤ z
one_more n z = suc_ℤ-*ℤ (pos n) z

pub against_is : (x y : ℤ) (xs ys : List ℤ) → length ys ≡ length xs
    → against x y xs ys ≡ pos (length xs) *ℤ (x *ℤ y) -ℤ x *ℤ signed_sum ys -ℤ y *ℤ signed_sum xs +ℤ products xs ys
against_is x y [] [] e = omega (arith, ints)
against_is x y (u ∷ xs) (v ∷ ys) e =
    let h = against_is x y xs ys (omega (arith, e)) in
    let n = one_more (length xs) (x *ℤ y) in
    let a = sum_right x v (signed_sum ys) in
    let b = sum_right y u (signed_sum xs) in
    let c = difference_left x u (y -ℤ v) in
    let d = difference_right x y v in
    let f = difference_right u y v in
    let g = *ℤ_comm u y in
    omega (arith, ints, h, n, a, b, c, d, f, g)
against_is x y xs ys e = absurd (omega arith)

pub pairs_are : (xs ys : List ℤ) → length ys ≡ length xs → over_pairs xs ys ≡ pos (length xs) *ℤ products xs ys -ℤ signed_sum xs *ℤ signed_sum ys
pairs_are [] [] e = omega (arith, ints)
pairs_are (x ∷ xs) (y ∷ ys) e =
    let same : length ys ≡ length xs = omega (arith, e) in
    let h = against_is x y xs ys same in
    let k = pairs_are xs ys same in
    let n = one_more (length xs) ((x *ℤ y) +ℤ products xs ys) in
    let m = sum_right (pos (length xs)) (x *ℤ y) (products xs ys) in
    let a = sum_left x (signed_sum xs) (y +ℤ signed_sum ys) in
    let b = sum_right x y (signed_sum ys) in
    let c = sum_right (signed_sum xs) y (signed_sum ys) in
    let d = *ℤ_comm (signed_sum xs) y in
    omega (arith, ints, h, k, n, m, a, b, c, d)
pairs_are xs ys e = absurd (omega arith)
