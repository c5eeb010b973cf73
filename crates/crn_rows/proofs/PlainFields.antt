-- Fields that need no quotes: numbers, hexadecimal words and the names of policies.
use Rattle.std.proofs.Common.{◌≡◌, ℕ, zero, suc, ◌/◌, ◌%◌, ◌<◌, ◌^◌, ℤ, pos, negsuc, ◌+ℤ◌, ◌≤ℤ◌, ◌&&◌, nat_le, true, false, List, [], ◌∷◌, length, decimal, refl, arith}
use Rattle.std.proofs.lemmas.Bool.{and_parts}
use Rattle.std.proofs.lemmas.Bool.Decides.{nat_tests}
use Rattle.std.proofs.lemmas.Int.{ints}
use Rattle.std.specs.Fmt.{signed_decimal, digit_glyph}
use Rattle.std.specs.List.{list_all}
use lib.Signed.{mag}
use Rattle.crn_spelling.specs.Names.{is_name, is_name_byte}
use Rattle.crn_spelling.specs.Hex.{hex_digits, hex_word}
use Rattle.crn_rows.specs.Plain.{is_plain, is_plain_byte}
use Rattle.crn_rows.proofs.Plainness.{decimal_plain, signed_plain, plain_append}

pub number_plain : (n : ℕ) → n < 2 ^ 64 → is_plain (decimal n) ≡ true
number_plain n h = decimal_plain n (omega arith)

-- a number from -low to high
pub mag_low : (z : ℤ) (low high : ℕ) → pos 0 ≤ℤ (z +ℤ pos low) → z ≤ℤ pos high → low < 2 ^ 64 → high < 2 ^ 64 → mag z < 2 ^ 127
mag_low (pos n) low high a b c d = omega (arith, ints, a, b, c, d)
mag_low (negsuc n) low high a b c d = omega (arith, ints, a, b, c, d)

-- a number from 0 to high
pub level_plain : (z : ℤ) (high : ℕ) → pos 0 ≤ℤ z → z ≤ℤ pos high → high < 2 ^ 64 → is_plain (signed_decimal z) ≡ true
level_plain z high a b c = signed_plain z (mag_low z 0 high (omega (arith, ints, a)) b (omega arith) c)

glyph_plain : (d : ℕ) → d < 16 → is_plain_byte (digit_glyph false d) ≡ true
glyph_plain d h = grind (arith, nat_tests, h)

digits_plain : (k n : ℕ) → is_plain (hex_digits k n) ≡ true
digits_plain zero n = refl
digits_plain (suc k) n =
    let last : is_plain (digit_glyph false (n % 16) ∷ []) ≡ true = rw (glyph_plain (n % 16) (omega arith)) refl in
    plain_append (hex_digits k (n / 16)) (digit_glyph false (n % 16) ∷ []) (digits_plain k (n / 16)) last

pub word_plain : (n : ℕ) → is_plain (hex_word n) ≡ true
unfolding hex_word
word_plain n = digits_plain 16 n

name_byte_plain : (b : ℕ) → is_name_byte b ≡ true → is_plain_byte b ≡ true
name_byte_plain b h = grind (arith, nat_tests, h)

bytes_plain : (bs : List ℕ) → list_all is_name_byte bs ≡ true → is_plain bs ≡ true
bytes_plain [] h = refl
bytes_plain (b ∷ bs) h =
    let (here, more) = and_parts (is_name_byte b) (list_all is_name_byte bs) h in
    rw (name_byte_plain b here, bytes_plain bs more)

pub name_plain : (name : List ℕ) → is_name name ≡ true → is_plain name ≡ true
name_plain name h =
    let (_, bytes) = and_parts (nat_le 1 (length name) && nat_le (length name) 16) (list_all is_name_byte name) h in
    bytes_plain name bytes
