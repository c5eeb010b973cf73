-- Numbers that rise strictly, read from the front.
use Rattle.std.proofs.Common.{◌≡◌, ℕ, zero, suc, ◌+◌, ◌<◌, ◌≤◌, Bool, true, ◌&&◌, List, [], ◌∷◌, AllPairs, None, length, sum, slice_index_or, refl, sym, ◌∙◌, arith, nat_le, nat_lt}
use Rattle.std.proofs.lemmas.Bool.{and_parts, leb-true}
use Rattle.std.proofs.lemmas.Bool.Decides.{nat_tests}
use Rattle.crn_draw.specs.Faults.{rises, least_weights_fault, AreWeighted}

-- whether the numbers rise strictly, and the first is at least `least`
abbrev pub rises_from : ℕ → List ℕ → Bool
rises_from least [] = true
rises_from least (x ∷ xs) = nat_le least x && rises_from (x + 1) xs

lt-le : (a b : ℕ) → nat_le (a + 1) b ≡ nat_lt a b
lt-le a b = grind (arith, nat_tests)

rises_next : (x : ℕ) (xs : List ℕ) → rises_from (x + 1) xs ≡ rises (x ∷ xs)
rises_next x [] = refl
rises_next x (y ∷ ys) = rw (lt-le x y, rises_next y ys)

zero-le : (x : ℕ) → nat_le 0 x ≡ true
zero-le x = grind (arith, nat_tests)

pub rises_zero : (xs : List ℕ) → rises_from 0 xs ≡ rises xs
rises_zero [] = refl
rises_zero (x ∷ xs) = rw (zero-le x) (rises_next x xs)

at-least : (least : ℕ) (xs : List ℕ) (k d : ℕ) → rises_from least xs ≡ true → k < length xs → least ≤ slice_index_or xs k d
at-least least [] k d up lt = absurd (omega (arith, lt))
at-least least (x ∷ xs) zero d up lt = leb-true least x (and_parts (nat_le least x) (rises_from (x + 1) xs) up).0
at-least least (x ∷ xs) (suc k) d up lt =
    let parts = and_parts (nat_le least x) (rises_from (x + 1) xs) up in
    omega (arith, leb-true least x parts.0, at-least (x + 1) xs k d parts.1 (omega (arith, lt)))

-- each is less than all later ones
pub pairs-rise : (least : ℕ) (xs : List ℕ) → rises_from least xs ≡ true → AllPairs (λ x y. x < y) xs
pairs-rise least (x ∷ xs) up zero (suc j) d lt inside =
    omega (arith, at-least (x + 1) xs j d (and_parts (nat_le least x) (rises_from (x + 1) xs) up).1 (omega (arith, inside)))
pairs-rise least (x ∷ xs) up (suc i) (suc j) d lt inside =
    pairs-rise (x + 1) xs (and_parts (nat_le least x) (rises_from (x + 1) xs) up).1 i j d (omega (arith, lt)) (omega (arith, inside))
pairs-rise least xs up i j d lt inside = absurd (omega (arith, lt, inside))

-- nothing is refused of values and weights with all that is asked
pub no_fault : (values weights : List ℕ) → 0 < length values → length values ≡ length weights → rises values ≡ true → 0 < sum weights → sum weights ≤ 65536
    → least_weights_fault values weights ≡ None
no_fault values weights some same rising low high = rw rising (grind (arith, nat_tests, some, same, low, high))

-- ---- values and weights without a fault, in other words

-- numbers of which each is less than all later ones rise
rises_of : (xs : List ℕ) → AllPairs (λ x y. x < y) xs → rises xs ≡ true
rises_of [] h = refl
rises_of (x ∷ []) h = refl
rises_of (x ∷ y ∷ ys) h =
    let first : x < y = h 0 1 0 (omega arith) (omega arith) in
    let here : nat_lt x y ≡ true = grind (arith, nat_tests, first) in
    rw (here, rises_of (y ∷ ys) (λ i j d lt inside. h (suc i) (suc j) d (omega (arith, lt)) (omega (arith, inside))))

pub from_weighted : (values weights : List ℕ) → AreWeighted values weights → least_weights_fault values weights ≡ None
from_weighted values weights h = no_fault values weights (omega (arith, h.some)) (sym h.each) (rises_of values h.rising) (omega (arith, h.low)) h.high

pub are_weighted : (values weights : List ℕ) → least_weights_fault values weights ≡ None → AreWeighted values weights
are_weighted values weights e =
    let up : rises values ≡ true = grind (arith, nat_tests, e) in record {
      some = grind (arith, nat_tests, e);
      each = grind (arith, nat_tests, e);
      rising = pairs-rise 0 values (rises_zero values ∙ up);
      low = grind (arith, nat_tests, e);
      high = grind (arith, nat_tests, e);
    }
