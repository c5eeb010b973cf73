-- Fields that a `csv` writer with the defaults writes as they are.
use Rattle.std.specs.Prelude.{ℕ, List, Bool, ◌&&◌, length, nat_le, nat_lt}
use Rattle.std.specs.List.{list_all}

-- a byte that calls for no quotes and begins no byte order mark, as do letters, digits, `-`, `/` and `_`
abbrev pub is_plain_byte : ℕ → Bool
is_plain_byte b = nat_le 45 b && nat_lt b 128

abbrev pub is_plain : List ℕ → Bool
is_plain bytes = list_all is_plain_byte bytes

abbrev pub are_plain : List (List ℕ) → Bool
are_plain fields = list_all is_plain fields

-- a row of several such fields
abbrev pub is_row : List (List ℕ) → Bool
is_row fields = nat_lt 1 (length fields) && are_plain fields

abbrev pub are_rows : List (List (List ℕ)) → Bool
are_rows rows = list_all is_row rows
