-- The counter of a block's words.
use Rattle.std.proofs.Common.{◌≡◌, ℕ, ◌<◌, ◌^◌, List, [], ◌∷◌, subst, refl, arith}
use Rattle.crn_cipher.specs.Cipher.{Un}
use Rattle.crn_cipher.specs.Blocks.{StreamWords}
use Rattle.crn_cipher.specs.declared.stream.Stream.TheVariants.{Demand}
use Rattle.crn_cipher.proofs.Inverse.{IsState, un_threefry}

pub counter_of_words : (key demand : List ℕ) (n : ℕ) → IsState key → n < 2 ^ 64 → StreamWords key n Demand ≡ demand → Un key demand ≡ n ∷ 0 ∷ 0 ∷ 0 ∷ []
counter_of_words key demand n is_key lt is =
    let zero : 0 < 2 ^ 64 = omega (arith, lt) in
    subst (λ (d : List ℕ). Un key d ≡ n ∷ 0 ∷ 0 ∷ 0 ∷ []) is
    (un_threefry key is_key (n ∷ 0 ∷ 0 ∷ 0 ∷ []) (record { w0 = n; w1 = 0; w2 = 0; w3 = 0; is = refl; fits0 = lt; fits1 = zero; fits2 = zero; fits3 = zero }))
