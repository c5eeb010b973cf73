-- The text of a checkpoint, in both versions: rows of five fields, first those of the scenario, then those of each policy
-- and its state. The versions differ in their numbers, and in a row that tells how many numbers of returned items there are.
use Rattle.std.specs.Prelude.{ℕ, zero, suc, ◌+◌, List, [], ◌∷◌, ◌++◌, Option, Some, None, length, slice_index, codes, decimal}
use Rattle.std.specs.Fmt.{signed_decimal}
use Rattle.crn_draw.specs.Spread.{Weighted}
use Rattle.crn_stock.specs.declared.model.Costs.{Costs}
use Rattle.crn_stock.specs.declared.policy.Policy.{Policy}
use Rattle.crn_stock.specs.Parts.{Parts}
use Rattle.crn_stock.specs.Models.{ModelParts, returned_values, ScenarioParts}
use Rattle.crn_rows.specs.Rows.{rows_text}
use Rattle.crn_spelling.specs.Hex.{hex_word}
use Rattle.crn_checkpoint.specs.declared.version.Version.{Version}
use Rattle.crn_checkpoint.specs.declared.version.Version.TheVariants as version

-- a field without content
abbrev pub dash : List ℕ
dash = codes "-"

-- a row of four numbers under a name
abbrev pub numbers_row : List ℕ → ℕ → ℕ → ℕ → ℕ → List (List ℕ)
numbers_row name a b c d = name ∷ decimal a ∷ decimal b ∷ decimal c ∷ decimal d ∷ []

-- a row of two numbers under a name
abbrev pub pair_row : List ℕ → ℕ → ℕ → List (List ℕ)
pair_row name a b = name ∷ decimal a ∷ decimal b ∷ dash ∷ dash ∷ []

-- ---- the scenario

-- the number of a version
abbrev pub version_number : Version → ℕ
version_number version.First = 1
version_number version.Second = 2

-- the version, the block that comes next, the periods and the replications
abbrev pub head_row : Version → ModelParts → ℕ → List (List ℕ)
head_row v m next = numbers_row (codes "checkpoint") (version_number v) next m.periods m.replications

abbrev pub key_row : List ℕ → List (List ℕ)
key_row key =
    codes "key" ∷ hex_word (slice_index key 0) ∷ hex_word (slice_index key 1) ∷ hex_word (slice_index key 2) ∷ hex_word (slice_index key 3) ∷ []

abbrev pub costs_row : Costs → List (List ℕ)
costs_row c = numbers_row (codes "costs") c.setup c.unit c.holding c.backlog

-- the initial stock, and how many demands, lead times and policies there are
abbrev pub sizes_row : ScenarioParts → List (List ℕ)
sizes_row s =
    codes "sizes" ∷ signed_decimal s.model.initial ∷ decimal (length s.model.demand.values) ∷ decimal (length s.model.lead.values)
    ∷ decimal (length s.policies) ∷ []

-- how many numbers of returned items there are, 0 without returns: the first version does not tell it
abbrev pub count_rows : Version → ModelParts → List (List (List ℕ))
count_rows version.First m = []
count_rows version.Second m = (codes "returns" ∷ decimal (length (returned_values m.returns)) ∷ dash ∷ dash ∷ dash ∷ []) ∷ []

-- a row for each value and its weight
abbrev pub weight_rows : List ℕ → List ℕ → List ℕ → List (List (List ℕ))
weight_rows name [] weights = []
weight_rows name (v ∷ values) [] = []
weight_rows name (v ∷ values) (w ∷ weights) = pair_row name v w ∷ weight_rows name values weights

abbrev pub drawn_rows : List ℕ → Weighted → List (List (List ℕ))
drawn_rows name d = weight_rows name d.values d.weights

-- a row for each number of returned items and its weight, where customers return any
abbrev pub returned_rows : Option Weighted → List (List (List ℕ))
returned_rows None = []
returned_rows (Some d) = drawn_rows (codes "return") d

-- all lists that are drawn from
abbrev pub list_rows : ModelParts → List (List (List ℕ))
list_rows m = drawn_rows (codes "demand") m.demand ++ drawn_rows (codes "lead") m.lead ++ returned_rows m.returns

-- ---- a policy and its state

abbrev pub policy_row : Policy → List (List ℕ)
policy_row p = codes "policy" ∷ p.name ∷ signed_decimal p.low ∷ signed_decimal p.high ∷ dash ∷ []

-- a row for each period from t on in which an amount is due
abbrev pub due_rows : ℕ → List ℕ → List (List (List ℕ))
due_rows t [] = []
due_rows t (zero ∷ amounts) = due_rows (t + 1) amounts
due_rows t (suc a ∷ amounts) = pair_row (codes "due") t (suc a) ∷ due_rows (t + 1) amounts

-- a row for the cost of each replication, numbered from r on
abbrev pub cost_rows : ℕ → List ℕ → List (List (List ℕ))
cost_rows r [] = []
cost_rows r (k ∷ costs) = pair_row (codes "cost") r k ∷ cost_rows (r + 1) costs

-- the stock, the running cost, and how many rows follow of each kind
abbrev pub state_row : Parts → List (List ℕ)
state_row v =
    codes "state" ∷ signed_decimal v.stock ∷ decimal v.running ∷ decimal (length (due_rows v.period v.due)) ∷ decimal (length v.costs) ∷ []

abbrev pub policy_rows : Policy → Parts → List (List (List ℕ))
policy_rows p v = policy_row p ∷ state_row v ∷ due_rows v.period v.due ++ cost_rows 0 v.costs

abbrev pub all_policy_rows : List Policy → List Parts → List (List (List ℕ))
all_policy_rows [] states = []
all_policy_rows (p ∷ policies) [] = []
all_policy_rows (p ∷ policies) (v ∷ states) = policy_rows p v ++ all_policy_rows policies states

-- ---- the whole

abbrev pub end_row : List (List ℕ)
end_row = codes "end" ∷ dash ∷ dash ∷ dash ∷ dash ∷ []

unfoldable pub checkpoint_rows : Version → ScenarioParts → ℕ → List Parts → List (List (List ℕ))
checkpoint_rows v s next states =
    head_row v s.model next ∷ key_row s.key ∷ costs_row s.model.costs ∷ sizes_row s
    ∷ count_rows v s.model ++ list_rows s.model ++ all_policy_rows s.policies states ++ end_row ∷ []

-- the text of the states of a scenario's policies before block `next`. It does not tell the ring's size
unfoldable pub checkpoint_text : Version → ScenarioParts → ℕ → List Parts → List ℕ
checkpoint_text v s next states = rows_text (checkpoint_rows v s next states)
