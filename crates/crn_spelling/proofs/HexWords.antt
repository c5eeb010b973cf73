-- A hexadecimal word is read.
use Rattle.std.proofs.Common.{◌≡◌, ℕ, ◌<◌, ◌^◌, ◌==◌, true, false, List, [], ◌∷◌, length, refl, ap, sym, subst, ◌∙◌, arith, Ok, Err, Result}
use Rattle.std.proofs.lemmas.Bool.{and_parts}
use Rattle.std.proofs.lemmas.Bool.Decides.{nat_tests}
use Rattle.std.proofs.lemmas.Int.Digits.{digits_value-lt}
use Rattle.std.proofs.lemmas.Result.{Ok-from_Ok_iff}
use Rattle.std.specs.Char.{digit_value}
use Rattle.std.specs.Str.Parse.{AllDigits, IsNumeral, ParsesUnsigned, digits_value, without_leading_plus}
use Rattle.crn_spelling.specs.Hex.{is_hex_digit, are_hex_digits, is_hex_word, word_of}

digit_small : (b : ℕ) → is_hex_digit b ≡ true → digit_value b < 16
digit_small b h = grind (arith, nat_tests, h)

not_plus : (b : ℕ) → is_hex_digit b ≡ true → (b == 43) ≡ false
not_plus b h = grind (arith, nat_tests, h)

all_digits : (bs : List ℕ) → are_hex_digits bs ≡ true → AllDigits 16 bs
all_digits [] h = tt
all_digits (b ∷ bs) h = let parts = and_parts (is_hex_digit b) (are_hex_digits bs) h in (digit_small b parts.0, all_digits bs parts.1)

no_plus : (bs : List ℕ) → are_hex_digits bs ≡ true → without_leading_plus bs ≡ bs
no_plus [] h = refl
no_plus (b ∷ bs) h = rw (not_plus b (and_parts (is_hex_digit b) (are_hex_digits bs) h).0) refl

word_value : (bs : List ℕ) → is_hex_word bs ≡ true → word_of bs ≡ digits_value 16 bs
unfolding word_of
word_value bs h = rw h refl

pub parsed : {E : Type 0} (bs : List ℕ) (r : Result ℕ E) → is_hex_word bs ≡ true → ParsesUnsigned 64 16 bs r → r ≡ Ok (word_of bs)
unfolding is_hex_word
parsed bs r h p =
    let parts = and_parts (length bs == 16) (are_hex_digits bs) h in
    let first : (length bs == 16) ≡ true = parts.0 in
    let long : length bs ≡ 16 = grind (arith, nat_tests, first) in
    let plain : without_leading_plus bs ≡ bs = no_plus bs parts.1 in
    let all : AllDigits 16 bs = all_digits bs parts.1 in
    let small : digits_value 16 bs < 2 ^ 64 = rw long at (digits_value-lt 16 bs all) in
    let numeral : IsNumeral 16 (without_leading_plus bs) × (digits_value 16 (without_leading_plus bs) < 2 ^ 64) = subst (λ (ds : List ℕ). IsNumeral 16 ds × (digits_value 16 ds < 2 ^ 64)) (sym plain) ((omega arith, all), small) in
    Ok-from_Ok_iff r _ _ p numeral ∙ ap (λ (n : ℕ). Ok n) (ap (digits_value 16) plain ∙ sym (word_value bs h))

pub not_a_word : (bs : List ℕ) → is_hex_word bs ≡ false → word_of bs ≡ 0
unfolding word_of
not_a_word bs h = rw h refl

pub same_word : {E : Type 0} (r : Result ℕ E) (a b : ℕ) → r ≡ Ok a → r ≡ Ok b → b ≡ a
same_word r a b h k = cc

pub never_err : {E : Type 0} (r : Result ℕ E) (a : ℕ) (e : E) → r ≡ Ok a → r ≡ Err e → ⊥
never_err r a e h k = cc
