-- The keys of a scenario's tables: which they are, what may stand at each, and in which range.
use Rattle.std.specs.Prelude.{ℕ, ℤ, pos, nat_abs, List, [], ◌∷◌, Bool, true, false, ◌&&◌, ◌||◌, ◌==◌, not, Option, Some, None, is_some, int_le, nat_le, codes}
use Rattle.std.specs.List.{list_all, filter}
use Rattle.std.specs.Str.{bytes_eq}
use Rattle.toml.specs.Data.{Data, Items, Members, no_members, member, get_member, as_integer, as_str, as_array, as_table}
use Rattle.crn_draw.specs.declared.weights.TheConstants.{TOTAL_LIMIT}
use Rattle.crn_limits.specs.declared.TheConstants.{PERIOD_LIMIT, REPLICATION_LIMIT}
use Rattle.crn_spelling.specs.Hex.{is_hex_word}
use Rattle.crn_stock.specs.declared.limits.TheConstants.{ITEM_LIMIT, LEAD_LIMIT, LEVEL_LIMIT, RATE_LIMIT, SETUP_LIMIT}
use Rattle.crn_scenario.specs.Tree.{integers_of, texts_of, count_items, are_integers, are_texts, are_tables}
use Rattle.crn_scenario.specs.declared.fields.ValueKind.{ValueKind}
use Rattle.crn_scenario.specs.declared.fields.ValueKind.TheVariants as kind
use Rattle.crn_scenario.specs.declared.fields.Rule.{Rule}
use Rattle.crn_scenario.specs.declared.fields.Rule.TheVariants as rule

-- a key with what may stand there, and the first version of documents that has it
pub record Entry : Type 0 where
  pub name : List ℕ
  pub kind : ValueKind
  pub since : ℕ

-- a key that documents have from a version on
abbrev pub entry_since : ℕ → List ℕ → ValueKind → Entry
entry_since version name k = record { name = name; kind = k; since = version }

-- a key of all versions
abbrev pub entry : List ℕ → ValueKind → Entry
entry name k = entry_since 1 name k

-- those of the keys that a version has
unfoldable pub keys_of : ℕ → List Entry → List Entry
keys_of version es = filter (λ e. nat_le e.since version) es

-- ---- the tables

-- an integer from low to high
abbrev pub number : ℕ → ℕ → ValueKind
number low high = kind.Number (pos low) (pos high)

-- an array of integers from low to high, not empty
abbrev pub numbers_within : ℕ → ℕ → ValueKind
numbers_within low high = kind.Numbers (pos low) (pos high)

-- the greatest amount of stock
abbrev pub greatest_level : ℕ
greatest_level = nat_abs LEVEL_LIMIT

-- the keys of the document itself
abbrev pub top_table : List Entry
top_table =
    entry (codes "version") kind.Integer
    ∷ entry (codes "key") kind.HexWords
    ∷ entry (codes "periods") (number 1 PERIOD_LIMIT)
    ∷ entry (codes "replications") (number 1 REPLICATION_LIMIT)
    ∷ entry (codes "initial") (number 0 greatest_level)
    ∷ entry (codes "ring") kind.Integer
    ∷ entry (codes "costs") kind.Table
    ∷ entry (codes "demand") kind.Table
    ∷ entry (codes "lead") kind.Table
    ∷ entry (codes "policy") kind.Tables
    ∷ entry_since 2 (codes "returns") kind.Table
    ∷ []

-- the keys of the table `costs`
abbrev pub costs : List Entry
costs =
    entry (codes "setup") (number 0 SETUP_LIMIT)
    ∷ entry (codes "unit") (number 0 RATE_LIMIT)
    ∷ entry (codes "holding") (number 0 RATE_LIMIT)
    ∷ entry (codes "backlog") (number 0 RATE_LIMIT)
    ∷ []

-- values from low to high, with their weights
abbrev pub draws : ℕ → ℕ → List Entry
draws low high = entry (codes "values") (numbers_within low high) ∷ entry (codes "weights") (numbers_within 0 TOTAL_LIMIT) ∷ []

-- the keys of the table `demand`
abbrev pub demand : List Entry
demand = draws 0 ITEM_LIMIT

-- the keys of the table `lead`
abbrev pub lead : List Entry
lead = draws 1 LEAD_LIMIT

-- the keys of the table `returns`
abbrev pub returns : List Entry
returns = draws 0 ITEM_LIMIT

-- the keys of each table in `policy`
abbrev pub policy : List Entry
policy =
    entry (codes "name") kind.Text
    ∷ entry (codes "s") (number 0 greatest_level)
    ∷ entry (codes "S") (number 0 greatest_level)
    ∷ []

-- ---- what stands at a key against what may stand there

-- whether it is an array that passes a test
abbrev pub is_array_of : (Items → Bool) → Option Items → Bool
is_array_of test None = false
is_array_of test (Some ds) = test ds

-- whether a value is of a kind
abbrev pub is_of_kind : ValueKind → Data → Bool
is_of_kind kind.Integer d = is_some (as_integer d)
is_of_kind (kind.Number low high) d = is_some (as_integer d)
is_of_kind (kind.Numbers low high) d = is_array_of are_integers (as_array d)
is_of_kind kind.Text d = is_some (as_str d)
is_of_kind kind.HexWords d = is_array_of are_texts (as_array d)
is_of_kind kind.Table d = is_some (as_table d)
is_of_kind kind.Tables d = is_array_of are_tables (as_array d)

-- ranges, which no value of another kind breaks
abbrev pub is_within : ℤ → ℤ → Option ℤ → Bool
is_within low high None = true
is_within low high (Some z) = int_le low z && int_le z high

-- whether each number is from low to high
abbrev pub are_within : ℤ → ℤ → List ℤ → Bool
are_within low high [] = true
are_within low high (z ∷ zs) = is_within low high (Some z) && are_within low high zs

-- not empty, and each number in the range
abbrev pub is_list_within : ℤ → ℤ → Option Items → Bool
is_list_within low high None = true
is_list_within low high (Some ds) = not (count_items ds == 0) && are_within low high (integers_of ds)

-- four, each a hexadecimal word
abbrev pub are_four_words : Option Items → Bool
are_four_words None = true
are_four_words (Some ds) = (count_items ds == 4) && list_all is_hex_word (texts_of ds)

-- whether a value is in the range of its kind; one of another kind is
abbrev pub is_in_range : ValueKind → Data → Bool
is_in_range kind.Integer d = true
is_in_range (kind.Number low high) d = is_within low high (as_integer d)
is_in_range (kind.Numbers low high) d = is_list_within low high (as_array d)
is_in_range kind.Text d = true
is_in_range kind.HexWords d = are_four_words (as_array d)
is_in_range kind.Table d = true
is_in_range kind.Tables d = true

-- ---- what a table must keep: that its keys are known, that none is missing, that kinds and that ranges are right

-- whether what stands at one key keeps a rule
abbrev pub keeps_at : Rule → ValueKind → Option Data → Bool
keeps_at rule.Known k o = true
keeps_at rule.Present k o = is_some o
keeps_at rule.Kinds k None = true
keeps_at rule.Kinds k (Some d) = is_of_kind k d
keeps_at rule.Ranges k None = true
keeps_at rule.Ranges k (Some d) = is_in_range k d

-- whether what stands at each of these keys keeps a rule
abbrev pub keeps_at_all : Rule → List Entry → Members → Bool
keeps_at_all r [] ms = true
keeps_at_all r (e ∷ es) ms = keeps_at r e.kind (get_member e.name ms) && keeps_at_all r es ms

-- whether it is one of these keys
abbrev pub is_key : List Entry → List ℕ → Bool
is_key [] key = false
is_key (e ∷ es) key = bytes_eq e.name key || is_key es key

-- whether each key of a table is one of these
abbrev pub knows_all : List Entry → Members → Bool
knows_all es no_members = true
knows_all es (member key d ms) = is_key es key && knows_all es ms

-- whether a table with these keys keeps a rule
abbrev pub keeps : Rule → List Entry → Members → Bool
keeps rule.Known es ms = knows_all es ms
keeps rule.Present es ms = keeps_at_all rule.Present es ms
keeps rule.Kinds es ms = keeps_at_all rule.Kinds es ms
keeps rule.Ranges es ms = keeps_at_all rule.Ranges es ms
