-- The form of a policy's name.
use Rattle.std.specs.Prelude.{ℕ, Bool, ◌&&◌, ◌||◌, List, length, nat_le, nat_eq}
use Rattle.std.specs.List.{list_all}
use Rattle.crn_spelling.specs.declared.names.TheConstants.{NAME_LIMIT}

-- whether a byte is a letter, a digit, `_` or `-`
abbrev pub is_name_byte : ℕ → Bool
is_name_byte b =
    (nat_le 65 b && nat_le b 90) || (nat_le 97 b && nat_le b 122) || (nat_le 48 b && nat_le b 57) || nat_eq b 95 || nat_eq b 45

-- whether a name has its form: letters, digits, `_` or `-`, at least one and at most so many as the limit says
abbrev pub is_name : List ℕ → Bool
is_name bytes = nat_le 1 (length bytes) && nat_le (length bytes) NAME_LIMIT && list_all is_name_byte bytes
