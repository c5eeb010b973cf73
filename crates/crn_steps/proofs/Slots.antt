-- The slot of a block by a mask.
use Rattle.std.proofs.Common.{◌≡◌, ℕ, true, zero, suc, ◌+◌, ◌-◌, ◌/◌, ◌%◌, ◌^◌, ◌≤◌, ◌<◌, bit_and, sym, ap, ◌∙◌, subst, arith, eqb-true, ◌⊎◌, inl, inr}
use Rattle.std.proofs.lemmas.Nat.{and_mask}
use Rattle.std.specs.Int.{is_power_of_two}
use native.Mathlib.Nat.{eq-zero-or-pos, pow-suc}
use lib.Count.{ones, ones_step}

-- a number with no digit set
no_ones : (d n : ℕ) → n ≤ d → ones n ≡ 0 → n ≡ 0
no_ones zero n h e = omega (arith, h)
no_ones (suc d) n h e =
    let digits : n % 2 + ones (n / 2) ≡ 0 = sym (ones_step n) ∙ e in
    let rest : n / 2 ≡ 0 = no_ones d (n / 2) (omega (arith, h)) (omega (arith, digits)) in
    omega (arith, digits, rest)

-- a number with one digit set
one_one : (d n : ℕ) → n ≤ d → ones n ≡ 1 → (k : ℕ) × (n ≡ 2 ^ k)
unfolding ones
one_one zero n h e =
    let none : n ≡ 0 = omega (arith, h) in
    let wrong : 0 ≡ 1 = sym (ap ones none) ∙ e in
    absurd (omega (arith, wrong))
one_one (suc d) n h e = go (λ one. one_one d (n / 2) (omega (arith, h)) one) (eq-zero-or-pos (n % 2))
  where
    digits : n % 2 + ones (n / 2) ≡ 1
    digits = sym (ones_step n) ∙ e

    go : (ones (n / 2) ≡ 1 → (k : ℕ) × (n / 2 ≡ 2 ^ k)) → (n % 2 ≡ zero) ⊎ (zero < n % 2) → (k : ℕ) × (n ≡ 2 ^ k)
    go halved (inl even) =
        let half = halved (omega (arith, digits, even)) in
        (suc half.0, omega (arith, even, half.1, pow-suc 2 half.0))
    go halved (inr odd) =
        let rest : n / 2 ≡ 0 = no_ones (n / 2) (n / 2) (omega arith) (omega (arith, digits, odd)) in
        (zero, omega (arith, digits, odd, rest))

-- where the size is a power of two, the digits of a number that a mask leaves are its remainder
pub slot_by_mask : (size n : ℕ) → is_power_of_two size ≡ true → bit_and n (size - 1) ≡ n % size
slot_by_mask size n power =
    let found = one_one size size (omega arith) (eqb-true (ones size) 1 power) in
    subst (λ (x : ℕ). bit_and n (x - 1) ≡ n % x) (sym found.1) (and_mask n found.0)
