-- The text of a schedule line by line.
use Rattle.std.specs.Prelude.{◌≡◌, ℕ, ◌⊎◌, List, [], ◌∷◌, ◌++◌, Bool, true, ◌==◌, not}
use Rattle.std.specs.List.{list_all}

abbrev pub is_in_line : ℕ → Bool
is_in_line byte = not (byte == 10)

-- the text cut at its first line feed, or a last line that has none
pub record IsCut (text line after : List ℕ) : Type 0 where
  pub in_line : list_all is_in_line line ≡ true
  pub whole : (text ≡ line ++ 10 ∷ after) ⊎ ((text ≡ line) × (after ≡ []))
