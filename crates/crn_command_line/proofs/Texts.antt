-- Texts of arguments that are no numbers and no keys.
use Rattle.std.proofs.Common.{◌≡◌, ◌<◌, ◌^◌, ℕ, suc, List, [], ◌∷◌, Option, Some, None, map, decimal, slice_get, IfNone, ap, subst, sym, ◌∙◌, arith}
use Rattle.std.proofs.lemmas.Fmt.{decimal_injective}
use Rattle.crn_command_line.specs.CommandLine.{IsNumber}

abbrev text_in : Option (List ℕ) → List ℕ
text_in None = []
text_in (Some text) = text

-- a text that spells a number of 32 bits spells no larger one
pub too_large : (text : Option (List ℕ)) (m : ℕ) → m < 2 ^ 64 → text ≡ Some (decimal m) → (n : ℕ) → IsNumber 32 text n → m < 2 ^ 32
too_large text m fits spelt n is =
    let small : n < 2 ^ 32 = is.fits in
    let same : m ≡ n = decimal_injective m n fits (omega (arith, small)) (ap text_in (sym spelt ∙ is.spelt)) in
    omega (arith, same, small)

never_none : (key : List ℕ) (i : ℕ) → slice_get (map Some key) i ≡ Some None → ⊥
never_none (word ∷ key) (suc i) e = never_none key i e
never_none key i e = cc

-- words of which one is misspelt are no key
pub misspelt : (words : List (Option ℕ)) (i : ℕ) → slice_get words i ≡ Some None → (key : List ℕ) → words ≡ map Some key → ⊥
misspelt words i none key e = never_none key i (subst (λ (ws : List (Option ℕ)). slice_get ws i ≡ Some None) e none)

pub if_none : {T : Type 0} (found : Option T) (P : Type 0) → P → IfNone found P
if_none None P p = p
if_none (Some x) P p = tt
