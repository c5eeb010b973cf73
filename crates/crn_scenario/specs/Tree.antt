-- What stands in a document's tree.
use Rattle.std.specs.Prelude.{ℕ, ◌+◌, ℤ, List, [], ◌∷◌, Bool, true, ◌&&◌, Option, Some, None, is_some, nat_abs, option_and_then}
use Rattle.toml.specs.Data.{Items, no_items, item, Members, get_member, as_integer, as_str, as_array, as_table}

-- ---- at a key: the integer, text, array or table that stands there

-- the integer at a key, if one stands there
abbrev pub integer_at : List ℕ → Members → Option ℤ
integer_at key ms = option_and_then as_integer (get_member key ms)

-- the text at a key, if one stands there
abbrev pub text_at : List ℕ → Members → Option (List ℕ)
text_at key ms = option_and_then as_str (get_member key ms)

-- the array at a key, if one stands there
abbrev pub array_at : List ℕ → Members → Option Items
array_at key ms = option_and_then as_array (get_member key ms)

-- the table at a key, if one stands there
abbrev pub table_at : List ℕ → Members → Option Members
table_at key ms = option_and_then as_table (get_member key ms)

-- a number without its sign, and 0 where there is none
abbrev pub natural : Option ℤ → ℕ
natural None = 0
natural (Some z) = nat_abs z

-- ---- in an array: its integers, texts and tables, other entries left out

-- a list, with one more item before it if there is one
abbrev pub kept : {T : Type 0} → Option T → List T → List T
kept None ts = ts
kept (Some t) ts = t ∷ ts

-- the integers among an array's entries
abbrev pub integers_of : Items → List ℤ
integers_of no_items = []
integers_of (item d ds) = kept (as_integer d) (integers_of ds)

-- the texts among an array's entries
abbrev pub texts_of : Items → List (List ℕ)
texts_of no_items = []
texts_of (item d ds) = kept (as_str d) (texts_of ds)

-- the tables among an array's entries
abbrev pub tables_of : Items → List Members
tables_of no_items = []
tables_of (item d ds) = kept (as_table d) (tables_of ds)

-- how many entries it has
abbrev pub count_items : Items → ℕ
count_items no_items = 0
count_items (item d ds) = count_items ds + 1

-- whether each entry is an integer, a text, a table
abbrev pub are_integers : Items → Bool
are_integers no_items = true
are_integers (item d ds) = is_some (as_integer d) && are_integers ds

-- whether each entry is a text
abbrev pub are_texts : Items → Bool
are_texts no_items = true
are_texts (item d ds) = is_some (as_str d) && are_texts ds

-- whether each entry is a table
abbrev pub are_tables : Items → Bool
are_tables no_items = true
are_tables (item d ds) = is_some (as_table d) && are_tables ds
