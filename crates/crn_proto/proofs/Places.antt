-- Where the words of a ring stand: no two that matter share a place.
use Rattle.std.proofs.Common.{◌≡◌, ℕ, suc, ◌+◌, ◌*◌, ◌/◌, ◌%◌, ◌<◌, ◌≢◌, inl, inr, arith}
use Rattle.crn_cipher.specs.declared.TheConstants.{BLOCK_WORDS}
use Rattle.std.proofs.lemmas.Nat.{div-add-mod', mod_below, mul-le}
use Rattle.std.proofs.lemmas.Bool.{cases_lt}
use Rattle.crn_proto.specs.declared.spec.RingSpec.{RingSpec}
use Rattle.crn_proto.specs.Ring.{place, word_count}

-- two numbers less than `size` apart have different rests
pub rests_apart : (size a b : ℕ) → a < b → b < a + size → a % size ≡ b % size → ⊥
rests_apart size a b l h e =
    let x = div-add-mod' a size in
    let y = div-add-mod' b size in
    let up : a / size * size < b / size * size = omega arith in
    let few : b / size * size < suc (a / size) * size = grind arith in
    elim (cases_lt (a / size) (b / size)) [
      | inl below ↦ omega (arith, mul-le (suc (a / size)) size (b / size) size below (omega arith))
      | inr above ↦ omega (arith, mul-le (b / size) size (a / size) size above (omega arith))
    ]

module _ (spec : RingSpec) where
  pub place_above : (r n i : ℕ) → r < spec.readers → place spec n i ≢ 1 + r
  unfolding place
  place_above r n i h = omega arith

  pub place_not_first : (n i : ℕ) → place spec n i ≢ 0
  unfolding place
  place_not_first n i = omega arith

  pub place_within : (n i : ℕ) → 0 < spec.size → i < BLOCK_WORDS → place spec n i < word_count spec
  unfolding place
  place_within n i s h = let m = mod_below n spec.size s in omega arith

  pub same_place : (n m i j : ℕ) → i < BLOCK_WORDS → j < BLOCK_WORDS → place spec n i ≡ place spec m j → (n % spec.size ≡ m % spec.size) × (i ≡ j)
  unfolding place
  same_place n m i j h k e = (omega arith, omega arith)

  -- blocks less than `size` apart have different slots
  pub places_apart : (n m i j : ℕ) → n < m → m < n + spec.size → i < BLOCK_WORDS → j < BLOCK_WORDS → place spec n i ≢ place spec m j
  places_apart n m i j l near h k e = rests_apart spec.size n m l near (same_place n m i j h k e).0
