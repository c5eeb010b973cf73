-- How a scenario's tree is read: its faults, the scenario that a tree without one says, and what a text is to its reader.
-- Each fault is a fact of the tree by itself: a key that is absent and a value of another kind are faults of their own, and
-- break no other rule.
use Rattle.std.specs.Prelude.{◌≡◌, ℕ, ◌<◌, ℤ, pos, negsuc, ◌+ℤ◌, List, [], ◌∷◌, Bool, true, false, not, ◌&&◌, ◌||◌, ◌==◌, Option, Some, None, int_le, int_lt, nat_le, option_and_then, codes, map, nat_abs, IsUtf8, ⊤}
use Rattle.std.specs.Int.{is_power_of_two}
use Rattle.std.specs.List.{list_all, list_any}
use Rattle.std.specs.Str.{bytes_eq}
use Rattle.toml.specs.Data.{Data, Items, no_items, item, Members, as_table, at, get_member, as_str}
use Rattle.toml.specs.Parse.{parse_document}
use Rattle.crn_draw.specs.declared.weights.TheConstants.{TOTAL_LIMIT}
use Rattle.crn_limits.specs.declared.TheConstants.{POLICY_LIMIT, SLOT_LIMIT}
use Rattle.crn_spelling.specs.Names.{is_name}
use Rattle.crn_draw.specs.Spread.{Weighted}
use Rattle.crn_stock.specs.declared.model.Costs.{Costs}
use Rattle.crn_stock.specs.declared.policy.Policy.{Policy}
use Rattle.crn_stock.specs.Models.{ModelParts, ScenarioParts}
use Rattle.crn_spelling.specs.Hex.{word_of}
use Rattle.crn_scenario.specs.Tree.{integer_at, natural, text_at, array_at, table_at, integers_of, tables_of, count_items, kept}
use Rattle.crn_scenario.specs.Fields.{Entry, keys_of, keeps, is_within}
use Rattle.crn_scenario.specs.Fields as fields
use Rattle.crn_scenario.specs.declared.fields.TheConstants.{NEWEST_VERSION}
use Rattle.crn_scenario.specs.declared.fields.Rule.{Rule}
use Rattle.crn_scenario.specs.declared.fields.Rule.TheVariants as rule
use Rattle.crn_scenario.specs.declared.scenario_fault.ScenarioFault.{ScenarioFault}
use Rattle.crn_scenario.specs.declared.scenario_fault.ScenarioFault.TheVariants as fault

-- ---- the tables that are looked at: the top, what stands at `costs`, `demand`, `lead` and `returns` where it is a
-- table, and the tables in the array at `policy`

-- the version that the tree names, without its sign, and 0 where it names none
unfoldable pub version_of : Members → ℕ
version_of ms = natural (integer_at (codes "version") ms)

-- whether a table keeps a rule, if there is one
abbrev pub keeps_in : Rule → List Entry → Option Members → Bool
keeps_in r es None = true
keeps_in r es (Some ms) = keeps r es ms

-- the tables among the policies
abbrev pub policies_in : Option Items → List Members
policies_in None = []
policies_in (Some ds) = tables_of ds

-- the tables at `policy`
abbrev pub policies_at : Members → List Members
policies_at ms = policies_in (array_at (codes "policy") ms)

-- whether each of the tables in the top keeps a rule, with the keys that a version has
unfoldable pub inner_keep : Rule → ℕ → Members → Bool
inner_keep r version ms =
    keeps_in r (keys_of version fields.costs) (table_at (codes "costs") ms)
    && keeps_in r (keys_of version fields.demand) (table_at (codes "demand") ms)
    && keeps_in r (keys_of version fields.lead) (table_at (codes "lead") ms)
    && keeps_in r (keys_of version fields.returns) (table_at (codes "returns") ms)

-- whether each of the tables that are looked at keeps a rule, with the keys that the tree's version has
unfoldable pub all_keep : Rule → Members → Bool
all_keep r ms =
    keeps r (keys_of (version_of ms) fields.top_table) ms
    && inner_keep r (version_of ms) ms
    && list_all (keeps r (keys_of (version_of ms) fields.policy)) (policies_at ms)

-- ---- fault 2

-- whether it is a version that there is
abbrev pub is_version : Option ℤ → Bool
is_version None = false
is_version (Some z) = is_within (pos 1) (pos NEWEST_VERSION) (Some z)

-- fault 2: the version is none of those that there are
unfoldable pub has_other_version : Members → Bool
has_other_version ms = not (is_version (integer_at (codes "version") ms))

-- fault 3: a table has a key that is not one of its keys
unfoldable pub has_unknown_key : Members → Bool
has_unknown_key ms = not (all_keep rule.Known ms)

-- fault 4: a table lacks one of its keys
unfoldable pub lacks_key : Members → Bool
lacks_key ms = not (all_keep rule.Present ms)

-- fault 5: a value, or an entry of an array, is not of its kind
unfoldable pub has_other_kind : Members → Bool
has_other_kind ms = not (all_keep rule.Kinds ms)

-- fault 6: a number, a list or the key is out of its range
unfoldable pub breaks_range : Members → Bool
breaks_range ms = not (all_keep rule.Ranges ms)

-- ---- faults 7, 8 and 9: values and weights, wherever they stand

-- the keys of the tables with values and weights
abbrev pub drawn : List (List ℕ)
drawn = codes "demand" ∷ codes "lead" ∷ codes "returns" ∷ []

-- whether there are values, and not as many weights
abbrev pub have_other_lengths : Option Items → Option Items → Bool
have_other_lengths None ws = false
have_other_lengths (Some vs) None = false
have_other_lengths (Some vs) (Some ws) = not (count_items vs == count_items ws)

-- whether each number is above the one before
abbrev pub is_above : Option ℤ → ℤ → Bool
is_above None z = true
is_above (Some last) z = int_lt last z

-- whether the numbers rise strictly, the first above the last one before
abbrev pub rise_above : Option ℤ → List ℤ → Bool
rise_above last [] = true
rise_above last (z ∷ zs) = is_above last z && rise_above (Some z) zs

-- whether there are values that do not rise strictly
abbrev pub have_other_order : Option Items → Bool
have_other_order None = false
have_other_order (Some vs) = not (rise_above None (integers_of vs))

-- the sum of the numbers
abbrev pub total_of : List ℤ → ℤ
total_of [] = pos 0
total_of (z ∷ zs) = z +ℤ total_of zs

-- whether there are weights whose sum is out of its range
abbrev pub have_other_total : Option Items → Bool
have_other_total None = false
have_other_total (Some ws) = not (is_within (pos 1) (pos TOTAL_LIMIT) (Some (total_of (integers_of ws))))

-- whether a table has values, and not as many weights
abbrev pub has_other_lengths_in : Option Members → Bool
has_other_lengths_in None = false
has_other_lengths_in (Some ms) = have_other_lengths (array_at (codes "values") ms) (array_at (codes "weights") ms)

-- whether a table's values do not rise strictly
abbrev pub has_other_order_in : Option Members → Bool
has_other_order_in None = false
has_other_order_in (Some ms) = have_other_order (array_at (codes "values") ms)

-- whether the sum of a table's weights is out of its range
abbrev pub has_other_total_in : Option Members → Bool
has_other_total_in None = false
has_other_total_in (Some ms) = have_other_total (array_at (codes "weights") ms)

-- fault 7: not as many weights as values
unfoldable pub has_other_lengths : Members → Bool
has_other_lengths ms = list_any (λ key. has_other_lengths_in (table_at key ms)) drawn

-- fault 8: the values do not rise strictly
unfoldable pub has_values_out_of_order : Members → Bool
has_values_out_of_order ms = list_any (λ key. has_other_order_in (table_at key ms)) drawn

-- fault 9: the sum of the weights is 0 or over its limit
unfoldable pub has_weights_out_of_range : Members → Bool
has_weights_out_of_range ms = list_any (λ key. has_other_total_in (table_at key ms)) drawn

-- ---- fault 10

-- whether s is not above S; if one is missing it is not
abbrev pub are_in_order : Option ℤ → Option ℤ → Bool
are_in_order None high = true
are_in_order (Some low) None = true
are_in_order (Some low) (Some high) = int_le low high

-- whether a policy's s is not above its S
abbrev pub has_levels_in_order : Members → Bool
has_levels_in_order ms = are_in_order (integer_at (codes "s") ms) (integer_at (codes "S") ms)

-- fault 10: a policy's s is above its S
unfoldable pub has_low_above_high : Members → Bool
has_low_above_high ms = not (list_all has_levels_in_order (policies_at ms))

-- ---- fault 11

-- the name of a policy, if it has one
abbrev pub policy_name_of : Data → Option (List ℕ)
policy_name_of d = option_and_then (text_at (codes "name")) (as_table d)

-- the names that stand among the policies
abbrev pub names_in : Items → List (List ℕ)
names_in no_items = []
names_in (item d ds) = kept (policy_name_of d) (names_in ds)

-- the names among the policies, if there are policies
abbrev pub names_at : Option Items → List (List ℕ)
names_at None = []
names_at (Some ds) = names_in ds

-- whether a name is one of these
abbrev pub is_among : List (List ℕ) → List ℕ → Bool
is_among [] name = false
is_among (n ∷ names) name = bytes_eq n name || is_among names name

-- whether no name stands twice
abbrev pub all_differ : List (List ℕ) → Bool
all_differ [] = true
all_differ (name ∷ names) = not (is_among names name) && all_differ names

-- whether each has the form of a name, and none stands twice
abbrev pub are_good_names : List (List ℕ) → Bool
are_good_names names = list_all is_name names && all_differ names

-- fault 11: a policy's name has not the form of one, or stands twice
unfoldable pub has_bad_name : Members → Bool
has_bad_name ms = not (are_good_names (names_at (array_at (codes "policy") ms)))

-- ---- fault 12

-- whether there is a ring of so many slots: a power of two, at most the limit
unfoldable pub is_ring_size : ℤ → Bool
is_ring_size (pos slots) = is_power_of_two slots && nat_le slots SLOT_LIMIT
is_ring_size (negsuc n) = false

-- whether it is a number, and there is no ring of so many slots
abbrev pub is_other_ring : Option ℤ → Bool
is_other_ring None = false
is_other_ring (Some z) = not (is_ring_size z)

-- fault 12: there is no ring of this size
unfoldable pub has_other_ring : Members → Bool
has_other_ring ms = is_other_ring (integer_at (codes "ring") ms)

-- ---- fault 13

-- whether there are policies, and none or more than the limit
abbrev pub is_other_count : Option Items → Bool
is_other_count None = false
is_other_count (Some ds) = not (nat_le 1 (count_items ds) && nat_le (count_items ds) POLICY_LIMIT)

-- fault 13: there is no policy, or more than the limit
unfoldable pub has_other_policy_count : Members → Bool
has_other_policy_count ms = is_other_count (array_at (codes "policy") ms)

-- ---- all faults

-- the numbers of the faults, each with whether it holds
abbrev pub faults : Members → List (ℕ × Bool)
faults ms =
    (2, has_other_version ms)
    ∷ (3, has_unknown_key ms)
    ∷ (4, lacks_key ms)
    ∷ (5, has_other_kind ms)
    ∷ (6, breaks_range ms)
    ∷ (7, has_other_lengths ms)
    ∷ (8, has_values_out_of_order ms)
    ∷ (9, has_weights_out_of_range ms)
    ∷ (10, has_low_above_high ms)
    ∷ (11, has_bad_name ms)
    ∷ (12, has_other_ring ms)
    ∷ (13, has_other_policy_count ms)
    ∷ []

-- whether a fault of this number holds
abbrev pub holds_at : ℕ → List (ℕ × Bool) → Bool
holds_at k [] = false
holds_at k (p ∷ ps) = ((k == p.0) && p.1) || holds_at k ps

-- fault k holds
abbrev pub Fault : Members → ℕ → Type 0
Fault ms k = holds_at k (faults ms) ≡ true

-- no fault holds
pub record HasNone (ms : Members) : Type 0 where
  pub none : (k : ℕ) → ¬ Fault ms k

-- fault k holds, and none with a lower number
pub record IsLeast (ms : Members) (k : ℕ) : Type 0 where
  pub holds : Fault ms k
  pub none_below : (j : ℕ) → j < k → ¬ Fault ms j

-- ---- what stands at a key, as the scenario has it. What is absent or of another kind counts as 0 or as nothing: a tree
-- without a fault has none of it

-- the integer, and 0 if there is none
abbrev pub integer : Option ℤ → ℤ
integer None = pos 0
integer (Some z) = z

-- the text, and the empty one if there is none
abbrev pub text : Option (List ℕ) → List ℕ
text None = []
text (Some bytes) = bytes

-- the number that a hexadecimal word writes, and 0 if there is none
abbrev pub word : Option (List ℕ) → ℕ
word None = 0
word (Some bytes) = word_of bytes

-- the integers of an array, and none if there is no array
abbrev pub integers_in : Option Items → List ℤ
integers_in None = []
integers_in (Some ds) = integers_of ds

-- ---- the scenario that a tree says, part by part

-- the number at a key of a table, without its sign
abbrev pub natural_in : List ℕ → Option Members → ℕ
natural_in key o = natural (option_and_then (integer_at key) o)

-- the numbers at a key of a table, without their signs
abbrev pub naturals_in : List ℕ → Option Members → List ℕ
naturals_in key o = map nat_abs (integers_in (option_and_then (array_at key) o))

-- the cost rates of a table
abbrev pub cost_rates_of : Option Members → Costs
cost_rates_of o = record {
  setup = natural_in (codes "setup") o;
  unit = natural_in (codes "unit") o;
  holding = natural_in (codes "holding") o;
  backlog = natural_in (codes "backlog") o;
}

-- the values and weights of a table
abbrev pub weighted_of : Option Members → Weighted
weighted_of o = record { values = naturals_in (codes "values") o; weights = naturals_in (codes "weights") o }

-- what customers return, where a table says it
abbrev pub returns_of : Option Members → Option Weighted
returns_of None = None
returns_of (Some ms) = Some (weighted_of (Some ms))

-- the model of a tree
abbrev pub model_of : Members → ModelParts
model_of ms = record {
  periods = natural (integer_at (codes "periods") ms);
  replications = natural (integer_at (codes "replications") ms);
  initial = integer (integer_at (codes "initial") ms);
  costs = cost_rates_of (table_at (codes "costs") ms);
  demand = weighted_of (table_at (codes "demand") ms);
  lead = weighted_of (table_at (codes "lead") ms);
  returns = returns_of (table_at (codes "returns") ms);
}

-- the policy of a table
abbrev pub policy_of : Members → Policy
policy_of ms = record {
  name = text (text_at (codes "name") ms);
  low = integer (integer_at (codes "s") ms);
  high = integer (integer_at (codes "S") ms);
}

-- the key's word at a place
abbrev pub word_at : ℕ → Option Data → ℕ
word_at i o = word (option_and_then as_str (option_and_then (at i) o))

-- the key of the cipher: four words
abbrev pub key_of : Option Data → List ℕ
key_of o = word_at 0 o ∷ word_at 1 o ∷ word_at 2 o ∷ word_at 3 o ∷ []

-- the scenario of a tree that has no fault
unfoldable pub scenario_of : Members → ScenarioParts
scenario_of ms = record {
  key = key_of (get_member (codes "key") ms);
  ring = natural (integer_at (codes "ring") ms);
  model = model_of ms;
  policies = map policy_of (policies_at ms);
}

-- ---- what a text is to its reader

-- the number of a fault
abbrev pub scenario_fault_number : ScenarioFault → ℕ
scenario_fault_number fault.NoDocument = 1
scenario_fault_number fault.Version = 2
scenario_fault_number fault.UnknownKey = 3
scenario_fault_number fault.MissingKey = 4
scenario_fault_number fault.Kind = 5
scenario_fault_number fault.Range = 6
scenario_fault_number fault.Lengths = 7
scenario_fault_number fault.Order = 8
scenario_fault_number fault.WeightSum = 9
scenario_fault_number fault.Levels = 10
scenario_fault_number fault.Name = 11
scenario_fault_number fault.RingSize = 12
scenario_fault_number fault.PolicyCount = 13
scenario_fault_number (fault.Memory _) = 90

-- the tree of a text
pub record IsDocument (bytes : List ℕ) (ms : Members) : Type 0 where
  pub text : IsUtf8 bytes
  pub tree : parse_document bytes ≡ Some ms

-- a text that is no document, bytes that are no text among them
abbrev pub IsNoDocument : List ℕ → Type 0
IsNoDocument bytes = IsUtf8 bytes → parse_document bytes ≡ None

-- the bytes are a text of the scenario
pub record Reads (bytes : List ℕ) (s : ScenarioParts) : Type 0 where
  pub tree : Members
  pub document : IsDocument bytes tree
  pub no_fault : HasNone tree
  pub says : s ≡ scenario_of tree

-- they are a document, and the fault of this number is the least that holds of its tree
pub record HasLeast (bytes : List ℕ) (k : ℕ) : Type 0 where
  pub tree : Members
  pub document : IsDocument bytes tree
  pub least : IsLeast tree k

-- what a refusal says of the bytes: a failed allocation says nothing
abbrev pub RefusesScenario : ScenarioFault → List ℕ → Type 0
RefusesScenario fault.NoDocument bytes = IsNoDocument bytes
RefusesScenario (fault.Memory _) bytes = ⊤
RefusesScenario f bytes = HasLeast bytes (scenario_fault_number f)
