-- Rows of CSV whose fields stand as they are, with a comma between each two and a line feed at the end.
use Rattle.std.specs.Prelude.{ℕ, List, [], ◌∷◌, ◌++◌}

-- the byte between two fields
abbrev pub comma : List ℕ
comma = 44 ∷ []

-- the byte at the end of a row
abbrev pub line_feed : List ℕ
line_feed = 10 ∷ []

-- fields, each after a comma
abbrev pub further : List (List ℕ) → List ℕ
further [] = []
further (f ∷ fs) = comma ++ f ++ further fs

-- a row
unfoldable pub row_text : List (List ℕ) → List ℕ
row_text [] = line_feed
row_text (f ∷ fs) = f ++ further fs ++ line_feed

-- rows, one after another
abbrev pub rows_text : List (List (List ℕ)) → List ℕ
rows_text [] = []
rows_text (r ∷ rs) = row_text r ++ rows_text rs
