-- Hexadecimal words: 64 bits in 16 digits of 0-9a-f.
use Rattle.std.specs.Prelude.{ℕ, zero, suc, ◌/◌, ◌%◌, List, [], ◌∷◌, ◌++◌, Bool, false, ◌&&◌, ◌||◌, ◌==◌, cond, length, nat_le}
use Rattle.std.specs.Fmt.{digit_glyph}
use Rattle.std.specs.List.{list_all}
use Rattle.std.specs.Str.Parse.{digits_value}

-- whether a byte is one of 0-9 and a-f
abbrev pub is_hex_digit : ℕ → Bool
is_hex_digit b = (nat_le 48 b && nat_le b 57) || (nat_le 97 b && nat_le b 102)

-- whether all bytes are such digits
abbrev pub are_hex_digits : List ℕ → Bool
are_hex_digits bytes = list_all is_hex_digit bytes

-- whether it is a hexadecimal word: 16 such digits
unfoldable pub is_hex_word : List ℕ → Bool
is_hex_word bytes = (length bytes == 16) && are_hex_digits bytes

-- the number that a hexadecimal word writes, and 0 for any other text
unfoldable pub word_of : List ℕ → ℕ
word_of bytes = cond (is_hex_word bytes) (digits_value 16 bytes) 0

-- the last k hexadecimal digits of n
abbrev pub hex_digits : ℕ → ℕ → List ℕ
hex_digits zero n = []
hex_digits (suc k) n = hex_digits k (n / 16) ++ digit_glyph false (n % 16) ∷ []

-- the hexadecimal word that writes a number of 64 bits
unfoldable pub hex_word : ℕ → List ℕ
hex_word n = hex_digits 16 n
