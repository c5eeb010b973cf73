-- Sums that a loop gathers over two lists, place by place.
use Rattle.std.proofs.Common.{◌≡◌, ℕ, zero, suc, ◌*◌, ◌+◌, ◌<◌, ◌≤◌, true, nat_le, ℤ, pos, ◌*ℤ◌, ◌+ℤ◌, ◌-ℤ◌, unsigned_abs, List, [], ◌∷◌, length, drop, get_or, arith, refl, sym, ap, subst, ◌∙◌}
use Rattle.std.proofs.lemmas.Int.{ints, unsigned_abs-mul}
use Rattle.std.proofs.lemmas.Bool.{and_parts, leb-true}
use Rattle.std.proofs.Math.Nat.{mul-le-mul_left}
use Rattle.crn_pair.specs.Limits.{are_costs}
use Rattle.crn_pair.specs.declared.compare.TheConstants.{COST_LIMIT}
use Rattle.crn_pair.specs.Inner.Places.{products, AreSums, AreWithin}
use Rattle.crn_pair.specs.Pairs.{signed, differences, signed_sum, over_pairs}
use Rattle.crn_pair.proofs.Products.{pairs_are}
use Rattle.crn_pair.specs.declared.pair.Moments.{Moments}

-- the sums over the first i places, by what is left to gather
pub record Gathers (xs ys : List ℤ) (i : ℕ) (m : Moments) : Type 0 where
  pub x_left : m.x +ℤ signed_sum (drop i xs) ≡ signed_sum xs
  pub y_left : m.y +ℤ signed_sum (drop i ys) ≡ signed_sum ys
  pub products_left : m.products +ℤ products (drop i xs) (drop i ys) ≡ products xs ys
  pub within : AreWithin i m

pub gathers_more : (xs ys : List ℤ) (i : ℕ) (x y : ℤ) (m m' : Moments)
    → drop i xs ≡ x ∷ drop (suc i) xs → drop i ys ≡ y ∷ drop (suc i) ys
    → m'.x ≡ m.x +ℤ x → m'.y ≡ m.y +ℤ y → m'.products ≡ m.products +ℤ (x *ℤ y)
    → unsigned_abs x ≤ COST_LIMIT → unsigned_abs y ≤ COST_LIMIT
    → Gathers xs ys i m → Gathers xs ys (i + 1) m'
gathers_more xs ys i x y m m' at_x at_y new_x new_y new_products low_x low_y g =
    let head_x : signed_sum (drop i xs) ≡ x +ℤ signed_sum (drop (suc i) xs) = ap signed_sum at_x in
    let head_y : signed_sum (drop i ys) ≡ y +ℤ signed_sum (drop (suc i) ys) = ap signed_sum at_y in
    let head_p : products (drop i xs) (drop i ys) ≡ (x *ℤ y) +ℤ products (drop (suc i) xs) (drop (suc i) ys) =
    ap (λ (l : List ℤ). products l (drop i ys)) at_x ∙ ap (λ (l : List ℤ). products (x ∷ drop (suc i) xs) l) at_y in
    let size : unsigned_abs (x *ℤ y) ≡ unsigned_abs x * unsigned_abs y = unsigned_abs-mul x y in
    let low_p : unsigned_abs x * unsigned_abs y ≤ COST_LIMIT * COST_LIMIT = omega (arith, mul-le-mul_left (unsigned_abs x) low_y, low_x) in
    let one_on : suc i ≡ i + 1 = omega arith in
    subst (λ (n : ℕ). Gathers xs ys n m') one_on (record {
      x_left = omega (arith, ints, g.x_left, head_x, new_x);
      y_left = omega (arith, ints, g.y_left, head_y, new_y);
      products_left = omega (arith, ints, g.products_left, head_p, new_products);
      within = record {
        x_low = omega (arith, ints, g.within.x_low, low_x, new_x);
        y_low = omega (arith, ints, g.within.y_low, low_y, new_y);
        products_low = omega (arith, ints, g.within.products_low, low_p, size, new_products);
      };
    })

pub gathers_all : (xs ys : List ℤ) (n : ℕ) (m : Moments) → drop n xs ≡ [] → drop n ys ≡ [] → Gathers xs ys n m → AreSums xs ys m
gathers_all xs ys n m end_x end_y g =
    let none_x = ap signed_sum end_x in
    let none_y = ap signed_sum end_y in
    let none_p = ap (λ (l : List ℤ). products l (drop n ys)) end_x in
    record {
      x_is = omega (arith, ints, g.x_left, none_x);
      y_is = omega (arith, ints, g.y_left, none_y);
      products_are = omega (arith, ints, g.products_left, none_p);
    }

-- ---- the lists that are gathered over

pub difference_at : (a b : List ℕ) (i d e : ℕ) → i < length a → length b ≡ length a → drop i (differences a b) ≡ (pos (get_or a i d) -ℤ pos (get_or b i e)) ∷ drop (suc i) (differences a b)
difference_at (x ∷ a) (y ∷ b) zero d e inside same = refl
difference_at (x ∷ a) (y ∷ b) (suc i) d e inside same = difference_at a b i d e (omega arith) (omega (arith, same))
difference_at a b i d e inside same = absurd (omega arith)

pub no_difference_past : (a b : List ℕ) (i : ℕ) → length a ≤ i → drop i (differences a b) ≡ []
no_difference_past [] b zero past = refl
no_difference_past (x ∷ a) b zero past = absurd (omega arith)
no_difference_past (x ∷ a) (y ∷ b) (suc i) past = no_difference_past a b i (omega arith)
no_difference_past a b i past = refl

pub signed_at : (a : List ℕ) (i d : ℕ) → i < length a → drop i (signed a) ≡ pos (get_or a i d) ∷ drop (suc i) (signed a)
signed_at [] i d inside = absurd (omega arith)
signed_at (x ∷ a) zero d inside = refl
signed_at (x ∷ a) (suc i) d inside = signed_at a i d (omega arith)

pub cost_at : (a : List ℕ) (i d : ℕ) → are_costs a ≡ true → i < length a → get_or a i d ≤ COST_LIMIT
cost_at [] i d all inside = absurd (omega arith)
cost_at (x ∷ a) zero d all inside = leb-true x COST_LIMIT (and_parts (nat_le x COST_LIMIT) (are_costs a) all).0
cost_at (x ∷ a) (suc i) d all inside = cost_at a i d (and_parts (nat_le x COST_LIMIT) (are_costs a) all).1 (omega arith)

-- from sums over places to the sum over pairs of places
pub spread_is : (xs ys : List ℤ) (m : Moments) → length ys ≡ length xs → AreSums xs ys m → pos (length xs) *ℤ m.products -ℤ m.x *ℤ m.y ≡ over_pairs xs ys
spread_is xs ys m same sums = rw (sums.products_are, sums.x_is, sums.y_is) (sym (pairs_are xs ys same))

pub length-differences : (a b : List ℕ) → length b ≡ length a → length (differences a b) ≡ length a
length-differences [] b e = refl
length-differences (x ∷ a) [] e = absurd (omega arith)
length-differences (x ∷ a) (y ∷ b) e = ap suc (length-differences a b (omega (arith, e)))

pub length-signed : (a : List ℕ) → length (signed a) ≡ length a
length-signed [] = refl
length-signed (x ∷ a) = ap suc (length-signed a)
