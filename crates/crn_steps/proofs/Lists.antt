-- A list with one more at its end.
use Rattle.std.proofs.Common.{◌≡◌, ℕ, suc, zero, ◌⊎◌, List, [], ◌∷◌, ◌++◌, length, inl, inr, refl, sym, ap, slice_get, Some}

-- what stands in a list with one more at its end
pub last_cases : {A : Type 0} (xs : List A) (y x : A) (k : ℕ) → slice_get (xs ++ y ∷ []) k ≡ Some x → (slice_get xs k ≡ Some x) ⊎ ((k ≡ length xs) × (x ≡ y))
last_cases [] y x zero h = let same : y ≡ x = cc in inr (refl, sym same)
last_cases [] y x (suc k) h = cc
last_cases (z ∷ zs) y x zero h = inl h
last_cases (z ∷ zs) y x (suc k) h = elim (last_cases zs y x k h) [ inl old ↦ inl old | inr (at, is) ↦ inr (ap suc at, is) ]
