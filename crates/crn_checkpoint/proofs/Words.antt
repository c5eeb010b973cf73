-- A hexadecimal word says the number that it was written from.
use Rattle.std.proofs.Common.{◌≡◌, ℕ, zero, suc, ◌/◌, ◌%◌, ◌<◌, ◌^◌, true, false, List, [], ◌∷◌, ◌++◌, refl, ap, ◌∙◌, length, arith, length-append, IsUtf8, get_or, nat_le, nat_lt}
use Rattle.std.proofs.lemmas.Bool.Decides.{nat_tests}
use Rattle.std.proofs.lemmas.Bool.{and_parts}
use Rattle.std.proofs.lemmas.Int.Digits.{digits_value_push}
use Rattle.std.proofs.lemmas.Str.{IsUtf8-from_ascii}
use Rattle.std.specs.Char.{digit_value}
use Rattle.std.proofs.lemmas.Str.Ascii.{IsAscii-from_all}
use Rattle.crn_rows.specs.Plain.{is_plain, is_plain_byte}
use Rattle.crn_rows.proofs.PlainFields.{word_plain}
use Rattle.std.specs.Fmt.{digit_glyph}
use Rattle.std.specs.Str.Parse.{digits_value}
use Rattle.crn_spelling.specs.Hex.{hex_digits, hex_word, is_hex_digit, are_hex_digits, is_hex_word, word_of}

glyph_value : (d : ℕ) → d < 16 → digit_value (digit_glyph false d) ≡ d
glyph_value d h = grind (arith, nat_tests)

glyph_hex : (d : ℕ) → d < 16 → is_hex_digit (digit_glyph false d) ≡ true
glyph_hex d h = grind (arith, nat_tests)

value_of_digits : (k n : ℕ) → n < 16 ^ k → digits_value 16 (hex_digits k n) ≡ n
value_of_digits zero n h = omega arith
value_of_digits (suc k) n h =
    let low : n % 16 < 16 = omega arith in
    let high : n / 16 < 16 ^ k = omega arith in
    rw (digits_value_push 16 (hex_digits k (n / 16)) (digit_glyph false (n % 16)), value_of_digits k (n / 16) high, glyph_value (n % 16) low) (omega arith)

count_of_digits : (k n : ℕ) → length (hex_digits k n) ≡ k
count_of_digits zero n = refl
count_of_digits (suc k) n = rw (length-append, count_of_digits k (n / 16)) (omega arith)

hex_append : (xs : List ℕ) (b : ℕ) → are_hex_digits xs ≡ true → is_hex_digit b ≡ true → are_hex_digits (xs ++ b ∷ []) ≡ true
hex_append [] b h k = rw k refl
hex_append (x ∷ xs) b h k =
    let (here, more) = and_parts (is_hex_digit x) (are_hex_digits xs) h in
    rw (here, hex_append xs b more k)

hex_of_digits : (k n : ℕ) → are_hex_digits (hex_digits k n) ≡ true
hex_of_digits zero n = refl
hex_of_digits (suc k) n = hex_append (hex_digits k (n / 16)) (digit_glyph false (n % 16)) (hex_of_digits k (n / 16)) (glyph_hex (n % 16) (omega arith))

pub is_word : (n : ℕ) → is_hex_word (hex_word n) ≡ true
unfolding is_hex_word hex_word
is_word n = rw (count_of_digits 16 n, hex_of_digits 16 n) refl

word_is : (n k : ℕ) → k ≡ 16 → n < 16 ^ k → digits_value 16 (hex_digits k n) ≡ n
word_is n k e h = value_of_digits k n h

pub word_back : (n : ℕ) → n < 2 ^ 64 → word_of (hex_word n) ≡ n
unfolding word_of hex_word
word_back n h = rw (is_word n) (word_is n 16 refl h)

-- ---- plain bytes are a text

plain_small : (bs : List ℕ) → is_plain bs ≡ true → (k d : ℕ) → k < length bs → get_or bs k d < 128
plain_small [] h k d lt = absurd (omega (arith, lt))
plain_small (b ∷ bs) h zero d lt =
    let (here, more) = and_parts (is_plain_byte b) (is_plain bs) h in
    let (low, high) = and_parts (nat_le 45 b) (nat_lt b 128) here in
    grind (arith, nat_tests, high)
plain_small (b ∷ bs) h (suc k) d lt =
    let (here, more) = and_parts (is_plain_byte b) (is_plain bs) h in
    plain_small bs more k d (omega (arith, lt))

pub plain_utf8 : (f bs : List ℕ) → f ≡ bs → is_plain bs ≡ true → IsUtf8 f
plain_utf8 f bs e h = rw e (IsUtf8-from_ascii bs (IsAscii-from_all bs (plain_small bs h)))

pub word_read : (f text : List ℕ) (n r : ℕ) → n < 2 ^ 64 → f ≡ hex_word n → (IsUtf8 f → text ≡ f) → r ≡ word_of text → r ≡ n
word_read f text n r lt e says is =
    let same : text ≡ hex_word n = says (plain_utf8 f (hex_word n) e (word_plain n)) ∙ e in
    is ∙ ap word_of same ∙ word_back n lt
