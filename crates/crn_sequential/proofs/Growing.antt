-- A list that grows by one.
use Rattle.std.proofs.Common.{◌≡◌, ℕ, zero, suc, List, [], ◌∷◌, ◌++◌, length, Option, Some, None, slice_get, All, refl, subst, sym, arith}

abbrev value_or : {X : Type 0} → X → Option X → X
value_or d None = d
value_or d (Some v) = v

-- each item has a property that may speak of its place
abbrev pub HoldsOfEach : {X : Type 0} → (ℕ → X → Type 0) → List X → Type 0
HoldsOfEach {X} P xs = (i : ℕ) (v : X) → slice_get xs i ≡ Some v → P i v

module _ {X : Type 0} where
  -- what holds of each item by its place holds of the new one too
  each-push : (P : ℕ → X → Type 0) (xs : List X) (x : X) → HoldsOfEach P xs → P (length xs) x → HoldsOfEach P (xs ++ x ∷ [])
  each-push P [] x each last zero v e = subst (P 0) (λ k. value_or x (e k)) last
  each-push P [] x each last (suc i) v e = cc
  each-push P (y ∷ ys) x each last zero v e = each zero v e
  each-push P (y ∷ ys) x each last (suc i) v e = each-push (λ j. P (suc j)) ys x (λ j w f. each (suc j) w f) last i v e

  pub each-grown : (P : ℕ → X → Type 0) (xs ys : List X) (x : X) (n : ℕ) → ys ≡ xs ++ x ∷ [] → length xs ≡ n → HoldsOfEach P xs → P n x → HoldsOfEach P ys
  each-grown P xs ys x n grown count each last =
      subst (HoldsOfEach P) (sym grown) (each-push P xs x each (subst (λ (k : ℕ). P k x) (sym count) last))

  -- the items of a list stand in that list with one more, which is its last
  pub slice_get_front : (xs : List X) (x v : X) (i : ℕ) → slice_get xs i ≡ Some v → slice_get (xs ++ x ∷ []) i ≡ Some v
  slice_get_front [] x v i e = cc
  slice_get_front (y ∷ ys) x v zero e = e
  slice_get_front (y ∷ ys) x v (suc i) e = slice_get_front ys x v i e

  pub slice_get_last : (xs : List X) (x : X) → slice_get (xs ++ x ∷ []) (length xs) ≡ Some x
  slice_get_last [] x = refl
  slice_get_last (y ∷ ys) x = slice_get_last ys x

  -- what holds of each item of a list holds of each before its last, and of the last
  pub each-front : (P : ℕ → X → Type 0) (xs ys : List X) (x : X) → ys ≡ xs ++ x ∷ [] → HoldsOfEach P ys → HoldsOfEach P xs
  each-front P xs ys x is each i v e = each i v (subst (λ (l : List X). slice_get l i ≡ Some v) (sym is) (slice_get_front xs x v i e))

  pub each-last : (P : ℕ → X → Type 0) (xs ys : List X) (x : X) → ys ≡ xs ++ x ∷ [] → HoldsOfEach P ys → P (length xs) x
  each-last P xs ys x is each = each (length xs) x (subst (λ (l : List X). slice_get l (length xs) ≡ Some x) (sym is) (slice_get_last xs x))

  -- what holds of all items holds of the first, and of all that follow
  pub all-head : (P : X → Type 0) (xs ys : List X) (y : X) → xs ≡ y ∷ ys → All P xs → P y
  all-head P xs ys y is all = subst (λ (l : List X). All P l) is all 0 y (omega arith)

  pub all-tail : (P : X → Type 0) (xs ys : List X) (y : X) → xs ≡ y ∷ ys → All P xs → All P ys
  all-tail P xs ys y is all k d lt = subst (λ (l : List X). All P l) is all (suc k) d (omega (arith, lt))
