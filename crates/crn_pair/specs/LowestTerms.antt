-- Fractions in lowest terms.
use Rattle.std.specs.Prelude.{◌≡◌, ℕ, ℤ, unsigned_abs}
use Prim.Native.Nat.{◌∣◌}

-- no number but 1 divides both
abbrev pub AreInLowestTerms : ℤ → ℕ → Type 0
AreInLowestTerms num den = (d : ℕ) → d ∣ unsigned_abs num → d ∣ den → d ≡ 1
