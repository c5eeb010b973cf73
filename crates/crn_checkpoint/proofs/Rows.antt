-- The rows of a checkpoint: by their places, as lists, without quotes, and read back.
use Rattle.std.proofs.Common.{◌≡◌, ◌≢◌, ℕ, ◌+◌, ◌*◌, ◌<◌, ◌≤◌, ◌^◌, zero, suc, Option, Some, None, List, [], ◌∷◌, ◌++◌, map, length, get_or, drop, decimal, refl, ap, ◌∙◌, arith, All, codes, append_assoc, ℤ, true, sum, slice_index, sym, subst, inl, inr, Bool, false, pos, negsuc, ◌≤ℤ◌, ◌+ℤ◌, unsigned_abs, Result, Ok, Err, IsErr, IsErrAnd, MatchResult, alloc_error}
use Rattle.std.proofs.lemmas.Int.{ints}
use Rattle.crn_draw.specs.Spread.{Weighted}
use Rattle.crn_draw.specs.Faults.{least_weights_fault}
use Rattle.crn_draw.specs.declared.fault.DrawFault.{DrawFault}
use Rattle.crn_draw.specs.declared.fault.DrawFault.TheVariants as draw
use Rattle.crn_stock.specs.declared.restore.RestoreFault.{RestoreFault}
use Rattle.crn_stock.specs.declared.restore.RestoreFault.TheVariants as restore
use Rattle.crn_checkpoint.specs.Faults.{undrawn, unrestored}
use Rattle.crn_stock.specs.Parts.{stock_limit, Parts, AreInRange}
use Rattle.crn_stock.specs.Models.{ModelParts, returned_values, ScenarioParts, IsModel, IsPolicy, AreCosts, blocks_per_replication, total, AreForScenario, IsSameButRing}
use Rattle.crn_checkpoint.specs.Inner.Sizes.{model_parts_of}
use Rattle.crn_checkpoint.specs.declared.read.scenario.Sizes.{Sizes}
use Rattle.crn_checkpoint.specs.declared.fault.Unread.{Unread}
use Rattle.crn_checkpoint.specs.declared.fault.Unread.TheVariants.{Memory}
use Rattle.crn_stock.specs.declared.policy.Policy.{Policy}
use Rattle.crn_checkpoint.specs.CheckpointText.{weight_rows, cost_rows, drawn_rows, returned_rows, all_policy_rows, end_row, checkpoint_rows, numbers_row, pair_row, dash, head_row, key_row, costs_row, sizes_row, count_rows, list_rows, policy_row, due_rows, state_row, policy_rows, version_number, checkpoint_text}
use Rattle.crn_checkpoint.specs.declared.version.Version.TheVariants.{First, Second}
use Rattle.crn_checkpoint.specs.Reading.{IsScenario, CanDraw, IsInRange, IsTextIn, IsAnyTextOf}
use Rattle.crn_checkpoint.proofs.Lengths.{length_of_rising, all_below, lengths_of, rising_of, length_due, each_below, total_high, sum_of}
use Rattle.std.proofs.lemmas.List.Elements.{All-head, All-tail}
use Rattle.std.proofs.lemmas.List.Folds.{list_all-append}
use Rattle.std.proofs.Math.Nat.{le-mul_of_pos_right}
use Rattle.std.proofs.lemmas.Option.{slice_get-get_or}
use Rattle.std.specs.Fmt.{signed_decimal}
use lib.Signed.{mag}
use Rattle.crn_stock.specs.declared.model.Costs.{Costs}
use Rattle.crn_stock.specs.declared.limits.TheConstants.{PERIOD_COST_LIMIT}
use Rattle.crn_spelling.specs.Names.{is_name}
use Rattle.crn_spelling.specs.Hex.{hex_word}
use Rattle.crn_sequential.specs.Runs.{IsCheckpointOf, StandsBefore}
use Rattle.crn_rows.specs.Plain.{is_plain, is_row, are_rows}
use Rattle.crn_rows.proofs.Plainness.{signed_plain}
use Rattle.crn_checkpoint.specs.declared.version.Version.{Version}
use Rattle.crn_rows.proofs.PlainFields.{number_plain, mag_low, level_plain, word_plain, name_plain}
use Rattle.crn_limits.specs.Limits.{IsRingSize}
use Rattle.crn_checkpoint.specs.Inner.Cells.{cell, AreRowsOf}
use Rattle.crn_rows.specs.Rows.{rows_text}

-- ---- amounts are small enough to be read back

pub small_amount : (z : ℤ) → pos 0 ≤ℤ z → z ≤ℤ pos 1000000 → unsigned_abs z < 2 ^ 63
small_amount (pos n) low high = omega (arith, ints, low, high)
small_amount (negsuc n) low high = omega (arith, ints, low, high)

-- the limit of stock and position
pub limit_high : (b : Bool) (t : ℕ) → t ≤ 1024 → stock_limit b t ≤ 11240000
limit_high true t high = omega (arith, high)
limit_high false t high = omega arith

pub small_stock : (z : ℤ) (t : ℕ) → t ≤ 1024 → pos 0 ≤ℤ (z +ℤ pos (10000 * t)) → z ≤ℤ pos 11240000 → unsigned_abs z < 2 ^ 63
small_stock (pos n) t period low high = omega (arith, ints, low, high)
small_stock (negsuc n) t period low high = omega (arith, ints, low, high)

-- ---- weights

pub count_of_weights : (name values weights : List ℕ) → length values ≡ length weights → length (weight_rows name values weights) ≡ length values
count_of_weights name [] weights e = refl
count_of_weights name (v ∷ values) [] e = absurd (omega (arith, e))
count_of_weights name (v ∷ values) (w ∷ weights) e = ap suc (count_of_weights name values weights (omega (arith, e)))

pub values_read : (name values weights : List ℕ) → length values ≡ length weights → map (λ (r : List (List ℕ)). get_or r 1 []) (weight_rows name values weights) ≡ map decimal values
values_read name [] weights e = refl
values_read name (v ∷ values) [] e = absurd (omega (arith, e))
values_read name (v ∷ values) (w ∷ weights) e = ap (λ t. decimal v ∷ t) (values_read name values weights (omega (arith, e)))

pub weights_read : (name values weights : List ℕ) → length values ≡ length weights → map (λ (r : List (List ℕ)). get_or r 2 []) (weight_rows name values weights) ≡ map decimal weights
weights_read name [] [] e = refl
weights_read name (v ∷ values) (w ∷ weights) e = ap (λ t. decimal w ∷ t) (weights_read name values weights (omega (arith, e)))
weights_read name values weights e = absurd (omega (arith, e))

-- ---- costs

pub count_of_costs : (r : ℕ) (costs : List ℕ) → length (cost_rows r costs) ≡ length costs
count_of_costs r [] = refl
count_of_costs r (k ∷ costs) = ap suc (count_of_costs (r + 1) costs)

pub costs_read : (r : ℕ) (costs : List ℕ) → map (λ (x : List (List ℕ)). get_or x 2 []) (cost_rows r costs) ≡ map decimal costs
costs_read r [] = refl
costs_read r (k ∷ costs) = ap (λ t. decimal k ∷ t) (costs_read (r + 1) costs)

-- ---- the model's parts

pub same_parts : (m : ModelParts) (p r : ℕ) (i : ℤ) (a b c d : ℕ) → p ≡ m.periods → r ≡ m.replications → i ≡ m.initial → a ≡ m.costs.setup → b ≡ m.costs.unit → c ≡ m.costs.holding → d ≡ m.costs.backlog
    → model_parts_of (record { periods = p; replications = r; initial = i; costs = record { setup = a; unit = b; holding = c; backlog = d } }) m.demand m.lead m.returns ≡ m
same_parts m p r i a b c d ep er ei ea eb ec ed = rw (ep, er, ei, ea, eb, ec, ed) refl

pub four_words : (key : List ℕ) → length key ≡ 4 → get_or key 0 0 ∷ get_or key 1 0 ∷ get_or key 2 0 ∷ get_or key 3 0 ∷ [] ≡ key
four_words (a ∷ b ∷ c ∷ d ∷ []) e = refl
four_words key e = absurd (omega (arith, e))

clash : (r : Option DrawFault) (f : DrawFault) → r ≡ None → r ≡ Some f → ⊥
clash r f h k = cc

pub no_fault : (values weights values' weights' : List ℕ) (f : DrawFault) → values ≡ values' → weights ≡ weights' → least_weights_fault values' weights' ≡ None → least_weights_fault values weights ≡ Some f → ⊥
no_fault values weights values' weights' f ev ew none some =
    let none' : least_weights_fault values weights ≡ None = (λ i. least_weights_fault (ev i) (ew i)) ∙ none in
    clash (least_weights_fault values weights) f none' some

pub same_weighted : (d : Weighted) (values weights : List ℕ) → values ≡ d.values → weights ≡ d.weights → Path Weighted (record { values = values; weights = weights }) d
same_weighted d values weights ev ew = rw (ev, ew) refl

-- ---- a policy

pub same_policy : (p : Policy) (name : List ℕ) (low high : ℤ) → name ≡ p.name → low ≡ p.low → high ≡ p.high → Path Policy (record { name = name; low = low; high = high }) p
same_policy p name low high en el eh = rw (en, el, eh) refl

-- ---- faults of the crates below

pub undrawn_memory : (f : DrawFault) → (f ≢ draw.Memory alloc_error → ⊥) → undrawn f ≡ Memory alloc_error
undrawn_memory (draw.Memory refused) h = refl
undrawn_memory f h = absurd (h (λ e. cc e))

pub unrestored_memory : (f : RestoreFault) → (f ≢ restore.Memory alloc_error → ⊥) → unrestored f ≡ Memory alloc_error
unrestored_memory restore.Range h = absurd (h (λ e. cc e))
unrestored_memory (restore.Memory refused) h = refl

-- ---- a result that is handed on

pub handed_on : {T : Type 0} (r : Result T Unread) (e : Unread) (P : T → Type 0) → IsErr r × IsErrAnd r (λ f. f ≡ e) → e ≡ Memory alloc_error → MatchResult r P (λ f. f ≡ Memory alloc_error)
handed_on (Ok x) e P h m = absurd (cc h.0)
handed_on (Err f) e P h m = h.1 ∙ m

pub same_model_parts : (z : Sizes) (demand lead : Weighted) (returns : Option Weighted) (m : ModelParts) → demand ≡ m.demand → lead ≡ m.lead → returns ≡ m.returns
    → model_parts_of z m.demand m.lead m.returns ≡ m → model_parts_of z demand lead returns ≡ m
same_model_parts z demand lead returns m ed el er e = (λ i. model_parts_of z (ed i) (el i) (er i)) ∙ e

pub answered : {T : Type 0} (r : Result T Unread) (a b : T) → a ≡ b → MatchResult r (λ x. x ≡ a) (λ f. f ≡ Memory alloc_error) → MatchResult r (λ x. x ≡ b) (λ f. f ≡ Memory alloc_error)
answered (Ok x) a b e h = h ∙ e
answered (Err f) a b e h = h

-- ---- demands, lead times, returned items, and policies with their states: how many of each kind there are

-- values that rise to a small number are few
few : (d : Weighted) (n : ℕ) → n < 2 ^ 32 → All (λ v. v ≤ n) d.values → least_weights_fault d.values d.weights ≡ None → length d.values < 2 ^ 64
few d n small high none = omega (arith, small, length_of_rising d.values n (rising_of d.values d.weights none) high)

pub demands_few : (s : ScenarioParts) → IsScenario s → length s.model.demand.values < 2 ^ 64
demands_few s h = few s.model.demand 10000 (omega arith) h.model.demand h.demand

pub leads_few : (s : ScenarioParts) → IsScenario s → length s.model.lead.values < 2 ^ 64
leads_few s h = few s.model.lead 32 (omega arith) h.model.lead_high h.lead

few_returned : (o : Option Weighted) → All (λ v. v ≤ 10000) (returned_values o) → CanDraw o → length (returned_values o) < 2 ^ 64
few_returned None high can = omega arith
few_returned (Some d) high can = few d 10000 (omega arith) high can

pub returned_few : (s : ScenarioParts) → IsScenario s → length (returned_values s.model.returns) < 2 ^ 64
returned_few s h = few_returned s.model.returns h.model.returns h.returns

-- ---- they are small

pub demands_small : (s : ScenarioParts) → IsScenario s → All (λ v. v < 2 ^ 32) s.model.demand.values
demands_small s h = all_below s.model.demand.values 10000 (2 ^ 32) (omega arith) h.model.demand

pub leads_small : (s : ScenarioParts) → IsScenario s → All (λ v. v < 2 ^ 32) s.model.lead.values
leads_small s h = all_below s.model.lead.values 32 (2 ^ 32) (omega arith) h.model.lead_high

pub returned_small : (s : ScenarioParts) → IsScenario s → All (λ v. v < 2 ^ 32) (returned_values s.model.returns)
returned_small s h = all_below (returned_values s.model.returns) 10000 (2 ^ 32) (omega arith) h.model.returns

-- ---- each has a row

counted : (name : List ℕ) (d : Weighted) → least_weights_fault d.values d.weights ≡ None → length (drawn_rows name d) ≡ length d.values
counted name d none = count_of_weights name d.values d.weights (lengths_of d.values d.weights none)

pub demand_rows_count : (s : ScenarioParts) → IsScenario s → length (drawn_rows (codes "demand") s.model.demand) ≡ length s.model.demand.values
demand_rows_count s h = counted (codes "demand") s.model.demand h.demand

pub lead_rows_count : (s : ScenarioParts) → IsScenario s → length (drawn_rows (codes "lead") s.model.lead) ≡ length s.model.lead.values
lead_rows_count s h = counted (codes "lead") s.model.lead h.lead

counted_returned : (o : Option Weighted) → CanDraw o → length (returned_rows o) ≡ length (returned_values o)
counted_returned None can = refl
counted_returned (Some d) can = counted (codes "return") d can

pub returned_rows_count : (s : ScenarioParts) → IsScenario s → length (returned_rows s.model.returns) ≡ length (returned_values s.model.returns)
returned_rows_count s h = counted_returned s.model.returns h.returns

-- ---- where they begin

regroup : (a b c d e : List (List (List ℕ))) → (((a ++ b) ++ c) ++ d) ++ e ≡ a ++ (b ++ (c ++ (d ++ e)))
regroup a b c d e = append_assoc ((a ++ b) ++ c) d e ∙ append_assoc (a ++ b) c (d ++ e) ∙ append_assoc a b (c ++ (d ++ e))

in_order : (s : ScenarioParts) (states : List Parts)
    → (((drawn_rows (codes "demand") s.model.demand ++ drawn_rows (codes "lead") s.model.lead) ++ returned_rows s.model.returns) ++ all_policy_rows s.policies states) ++ end_row ∷ []
    ≡ drawn_rows (codes "demand") s.model.demand ++ (drawn_rows (codes "lead") s.model.lead ++ (returned_rows s.model.returns ++ (all_policy_rows s.policies states ++ end_row ∷ [])))
in_order s states = regroup (drawn_rows (codes "demand") s.model.demand) (drawn_rows (codes "lead") s.model.lead) (returned_rows s.model.returns) (all_policy_rows s.policies states) (end_row ∷ [])

pub lists_of_first : (s : ScenarioParts) (next : ℕ) (states : List Parts) (rows : List (List (List ℕ))) → rows ≡ checkpoint_rows First s next states
    → drop 4 rows ≡ drawn_rows (codes "demand") s.model.demand ++ (drawn_rows (codes "lead") s.model.lead ++ (returned_rows s.model.returns ++ (all_policy_rows s.policies states ++ end_row ∷ [])))
unfolding checkpoint_rows
lists_of_first s next states rows e = ap (drop 4) e ∙ in_order s states

pub lists_of_second : (s : ScenarioParts) (next : ℕ) (states : List Parts) (rows : List (List (List ℕ))) → rows ≡ checkpoint_rows Second s next states
    → drop 5 rows ≡ drawn_rows (codes "demand") s.model.demand ++ (drawn_rows (codes "lead") s.model.lead ++ (returned_rows s.model.returns ++ (all_policy_rows s.policies states ++ end_row ∷ [])))
unfolding checkpoint_rows
lists_of_second s next states rows e = ap (drop 5) e ∙ in_order s states

-- ---- rows call for no quotes, so that `csv` reads them again as they were written: single rows

pub numbers_plain : (name : List ℕ) (a b c d : ℕ) → is_plain name ≡ true → a < 2 ^ 64 → b < 2 ^ 64 → c < 2 ^ 64 → d < 2 ^ 64 → is_row (numbers_row name a b c d) ≡ true
numbers_plain name a b c d h ha hb hc hd = rw (h, number_plain a ha, number_plain b hb, number_plain c hc, number_plain d hd) refl

pub pair_plain : (name : List ℕ) (a b : ℕ) → is_plain name ≡ true → a < 2 ^ 64 → b < 2 ^ 64 → is_row (pair_row name a b) ≡ true
pair_plain name a b h ha hb = rw (h, number_plain a ha, number_plain b hb) refl

pub words_plain : (a b c d : ℕ) → is_row (codes "key" ∷ hex_word a ∷ hex_word b ∷ hex_word c ∷ hex_word d ∷ []) ≡ true
words_plain a b c d = rw (word_plain a, word_plain b, word_plain c, word_plain d) refl

pub key_plain : (key : List ℕ) → is_row (key_row key) ≡ true
key_plain key = words_plain (slice_index key 0) (slice_index key 1) (slice_index key 2) (slice_index key 3)

pub policy_plain : (p : Policy) → IsPolicy p → is_name p.name ≡ true → is_row (policy_row p) ≡ true
policy_plain p h name =
    let low = level_plain p.low 1000000 h.low (omega (arith, ints, h.order, h.high)) (omega arith) in
    let high = level_plain p.high 1000000 (omega (arith, ints, h.low, h.order)) h.high (omega arith) in
    rw (name_plain p.name name, low, high) refl

-- the row of a state, by its numbers
pub amounts_plain : (stock : ℤ) (running due done : ℕ) → mag stock < 2 ^ 127 → running < 2 ^ 64 → due < 2 ^ 64 → done < 2 ^ 64
    → is_row (codes "state" ∷ signed_decimal stock ∷ decimal running ∷ decimal due ∷ decimal done ∷ []) ≡ true
amounts_plain stock running due done h hr hd hn = rw (signed_plain stock h, number_plain running hr, number_plain due hd, number_plain done hn) refl

-- the row of a scenario's sizes, by its numbers
pub counts_plain : (initial : ℤ) (demands leads policies : ℕ) → mag initial < 2 ^ 127 → demands < 2 ^ 64 → leads < 2 ^ 64 → policies < 2 ^ 64
    → is_row (codes "sizes" ∷ signed_decimal initial ∷ decimal demands ∷ decimal leads ∷ decimal policies ∷ []) ≡ true
counts_plain initial demands leads policies h hd hl hp = rw (signed_plain initial h, number_plain demands hd, number_plain leads hl, number_plain policies hp) refl

-- the row of how many numbers of returned items there are
pub count_plain : (n : ℕ) → n < 2 ^ 64 → is_row (codes "returns" ∷ decimal n ∷ dash ∷ dash ∷ dash ∷ []) ≡ true
count_plain n h = rw (number_plain n h) refl

-- ---- lists of rows

rows_append : (rs ss : List (List (List ℕ))) → are_rows rs ≡ true → are_rows ss ≡ true → are_rows (rs ++ ss) ≡ true
rows_append rs ss h k = list_all-append is_row rs ss ∙ rw (h, k) refl

weights_plain : (name values weights : List ℕ) → is_plain name ≡ true → All (λ v. v < 2 ^ 64) values → All (λ w. w < 2 ^ 64) weights → are_rows (weight_rows name values weights) ≡ true
weights_plain name [] weights h hv hw = refl
weights_plain name (v ∷ values) [] h hv hw = refl
weights_plain name (v ∷ values) (w ∷ weights) h hv hw =
    let here = pair_plain name v w h (All-head (λ x. x < 2 ^ 64) v values hv) (All-head (λ x. x < 2 ^ 64) w weights hw) in
    rw (here, weights_plain name values weights h (All-tail (λ x. x < 2 ^ 64) v values hv) (All-tail (λ x. x < 2 ^ 64) w weights hw)) refl

due_plain : (t : ℕ) (amounts : List ℕ) → t + length amounts < 2 ^ 64 → All (λ a. a < 2 ^ 64) amounts → are_rows (due_rows t amounts) ≡ true
due_plain t [] h k = refl
due_plain t (zero ∷ amounts) h k = due_plain (t + 1) amounts (omega (arith, h)) (All-tail (λ x. x < 2 ^ 64) zero amounts k)
due_plain t (suc a ∷ amounts) h k =
    let here = pair_plain (codes "due") t (suc a) refl (omega (arith, h)) (All-head (λ x. x < 2 ^ 64) (suc a) amounts k) in
    rw (here, due_plain (t + 1) amounts (omega (arith, h)) (All-tail (λ x. x < 2 ^ 64) (suc a) amounts k)) refl

costs_plain : (r : ℕ) (costs : List ℕ) → r + length costs < 2 ^ 64 → All (λ k. k < 2 ^ 64) costs → are_rows (cost_rows r costs) ≡ true
costs_plain r [] h k = refl
costs_plain r (c ∷ costs) h k =
    let here = pair_plain (codes "cost") r c refl (omega (arith, h)) (All-head (λ x. x < 2 ^ 64) c costs k) in
    rw (here, costs_plain (r + 1) costs (omega (arith, h)) (All-tail (λ x. x < 2 ^ 64) c costs k)) refl

drawn_plain : (name : List ℕ) (d : Weighted) (n : ℕ) → is_plain name ≡ true → n < 2 ^ 64 → All (λ v. v ≤ n) d.values → least_weights_fault d.values d.weights ≡ None → are_rows (drawn_rows name d) ≡ true
drawn_plain name d n h high all none =
    weights_plain name d.values d.weights h (all_below d.values n (2 ^ 64) high all) (each_below d.weights (2 ^ 64) (omega (arith, sum_of d.values d.weights none)))

-- ---- a state

-- the ranges of a state that make its rows plain
record IsPlainState (v : Parts) : Type 0 where
  ranges : AreInRange v
  periods : v.periods ≤ 1024
  done : length v.costs ≤ 65536

limit : (v : Parts) → IsPlainState v → stock_limit v.has_returns v.period ≤ 11240000
limit v h = limit_high v.has_returns v.period (omega (arith, h.ranges.period_high, h.periods))

amounts_below : (v : Parts) → IsPlainState v → sum v.due < 2 ^ 64
amounts_below v h = omega (arith, ints, h.ranges.stock_low, h.ranges.position_high, limit v h, h.ranges.period_high, h.periods)

state_plain : (v : Parts) → IsPlainState v → is_row (state_row v) ≡ true
state_plain v h =
    let r = h.ranges in
    let stock = mag_low v.stock (10000 * v.period) 11240000 r.stock_low (omega (arith, ints, r.stock_high, limit v h)) (omega (arith, r.period_high, h.periods)) (omega arith) in
    let due = length_due v.period v.due in
    amounts_plain v.stock v.running (length (due_rows v.period v.due)) (length v.costs) stock
    (omega (arith, r.running_high, r.period_high, h.periods)) (omega (arith, due, r.due_length)) (omega (arith, h.done))

state_rows_plain : (p : Policy) (v : Parts) → IsPolicy p → is_name p.name ≡ true → IsPlainState v → are_rows (policy_rows p v) ≡ true
state_rows_plain p v h name k =
    let r = k.ranges in
    let due = due_plain v.period v.due (omega (arith, r.period_high, r.due_length, k.periods)) (each_below v.due (2 ^ 64) (amounts_below v k)) in
    let high : v.periods * PERIOD_COST_LIMIT < 2 ^ 64 = omega (arith, k.periods) in
    let costs = costs_plain 0 v.costs (omega (arith, k.done)) (all_below v.costs (v.periods * PERIOD_COST_LIMIT) (2 ^ 64) high r.costs_high) in
    let both = rows_append (due_rows v.period v.due) (cost_rows 0 v.costs) due costs in
    rw (policy_plain p h name, state_plain v k, both) refl

all_plain : (ps : List Policy) (vs : List Parts) → All IsPolicy ps → All (λ p. is_name p.name ≡ true) ps → All IsPlainState vs → are_rows (all_policy_rows ps vs) ≡ true
all_plain [] vs h name k = refl
all_plain (p ∷ ps) [] h name k = refl
all_plain (p ∷ ps) (v ∷ vs) h name k =
    let here = state_rows_plain p v (All-head IsPolicy p ps h) (All-head (λ q. is_name q.name ≡ true) p ps name) (All-head IsPlainState v vs k) in
    let more = all_plain ps vs (All-tail IsPolicy p ps h) (All-tail (λ q. is_name q.name ≡ true) p ps name) (All-tail IsPlainState v vs k) in
    rows_append (policy_rows p v) (all_policy_rows ps vs) here more

-- a replication takes a block at least
done_high : (m : ModelParts) (next : ℕ) (v : Parts) → IsModel m → next ≤ total m → StandsBefore m next v → length v.costs ≤ 65536
done_high m next v h low stands =
    let of_model = stands.of_model in
    let some : 0 < blocks_per_replication v.periods = omega (arith, of_model.periods_are, h.periods_low) in
    omega (arith, le-mul_of_pos_right (length v.costs) some, stands.next, total_high m h, low)

plain_state : (m : ModelParts) (next : ℕ) (v : Parts) → IsModel m → next ≤ total m → StandsBefore m next v → AreInRange v → IsPlainState v
plain_state m next v h low stands ranges = record {
  ranges = ranges;
  periods = omega (arith, stands.of_model.periods_are, h.periods_high);
  done = done_high m next v h low stands;
}

plain_states : (s : ScenarioParts) (next : ℕ) (states : List Parts) → IsModel s.model → next ≤ total s.model → IsCheckpointOf s next states → All AreInRange states → All IsPlainState states
plain_states s next states h low of ranges = λ k d inside.
    plain_state s.model next _ h low (of.stand k _ (slice_get-get_or states k d inside)) (ranges k d inside)

-- ---- the whole

version_plain : (v : Version) (m : ModelParts) (next : ℕ) → next < 2 ^ 64 → m.periods < 2 ^ 64 → m.replications < 2 ^ 64 → is_row (head_row v m next) ≡ true
version_plain First m next a b c = numbers_plain (codes "checkpoint") 1 next m.periods m.replications refl (omega arith) a b c
version_plain Second m next a b c = numbers_plain (codes "checkpoint") 2 next m.periods m.replications refl (omega arith) a b c

head_plain : (v : Version) (m : ModelParts) (next : ℕ) → IsModel m → next ≤ total m → is_row (head_row v m next) ≡ true
head_plain v m next h low = version_plain v m next (omega (arith, total_high m h, low)) (omega (arith, h.periods_high)) (omega (arith, h.replications_high))

rates_plain : (c : Costs) → AreCosts c → is_row (costs_row c) ≡ true
rates_plain c h = numbers_plain (codes "costs") c.setup c.unit c.holding c.backlog refl (omega (arith, h.setup)) (omega (arith, h.unit)) (omega (arith, h.holding)) (omega (arith, h.backlog))

sizes_plain : (s : ScenarioParts) → IsScenario s → is_row (sizes_row s) ≡ true
sizes_plain s h =
    let m = s.model in
    let initial = mag_low m.initial 0 1000000 (omega (arith, ints, h.model.initial_low)) h.model.initial_high (omega arith) (omega arith) in
    counts_plain m.initial (length m.demand.values) (length m.lead.values) (length s.policies) initial (demands_few s h) (leads_few s h) (omega (arith, h.others.few))

counted_plain : (v : Version) (m : ModelParts) → length (returned_values m.returns) < 2 ^ 64 → are_rows (count_rows v m) ≡ true
counted_plain First m h = refl
counted_plain Second m h = rw (count_plain (length (returned_values m.returns)) h) refl

returned_plain : (o : Option Weighted) → All (λ v. v ≤ 10000) (returned_values o) → CanDraw o → are_rows (returned_rows o) ≡ true
returned_plain None high can = refl
returned_plain (Some d) high can = drawn_plain (codes "return") d 10000 refl (omega arith) high can

lists_plain : (s : ScenarioParts) → IsScenario s → are_rows (list_rows s.model) ≡ true
lists_plain s h =
    let m = s.model in
    let demand = drawn_plain (codes "demand") m.demand 10000 refl (omega arith) h.model.demand h.demand in
    let lead = drawn_plain (codes "lead") m.lead 32 refl (omega arith) h.model.lead_high h.lead in
    let drawn = rows_append (drawn_rows (codes "demand") m.demand) (drawn_rows (codes "lead") m.lead) demand lead in
    rows_append (drawn_rows (codes "demand") m.demand ++ drawn_rows (codes "lead") m.lead) (returned_rows m.returns) drawn (returned_plain m.returns h.model.returns h.returns)

-- no row of a checkpoint whose parts are within their ranges calls for quotes
pub rows_plain : (v : Version) (s : ScenarioParts) (next : ℕ) (states : List Parts) → IsInRange s next states → are_rows (checkpoint_rows v s next states) ≡ true
unfolding checkpoint_rows
rows_plain v s next states h =
    let m = s.model in
    let c = h.scenario in
    let all = all_plain s.policies states c.others.ranges c.others.names (plain_states s next states c.model h.next_high h.states_of h.ranges) in
    let listed = rows_append (count_rows v m) (list_rows m) (counted_plain v m (returned_few s c)) (lists_plain s c) in
    let stated = rows_append (count_rows v m ++ list_rows m) (all_policy_rows s.policies states) listed all in
    let rest = rows_append (count_rows v m ++ list_rows m ++ all_policy_rows s.policies states) (end_row ∷ []) stated refl in
    rw (head_plain v m next c.model h.next_high, key_plain s.key, rates_plain m.costs c.model.costs, sizes_plain s c, rest) refl

-- ---- a checkpoint and its scenario, as they are read

pub version_read : (v : Version) (s : ScenarioParts) (next : ℕ) (states : List Parts) (rows : List (List (List ℕ))) → AreRowsOf v s next states rows → cell rows 0 1 ≡ decimal (version_number v)
unfolding checkpoint_rows
version_read v s next states rows h = ap (λ rows. cell rows 0 1) h.rows_are

pub version_small : (v : Version) → version_number v < 2 ^ 64
version_small First = omega arith
version_small Second = omega arith

pub is_first : (v : Version) (x : ℕ) → x ≡ version_number v → x ≡ 1 → Some First ≡ Some v
is_first First x e is = refl
is_first Second x e is = absurd (omega (arith, e, is))

pub is_second : (v : Version) (x : ℕ) → x ≡ version_number v → x ≡ 2 → Some Second ≡ Some v
is_second First x e is = absurd (omega (arith, e, is))
is_second Second x e is = refl

pub is_some_version : (v : Version) (x : ℕ) → x ≡ version_number v → ¬ (x ≡ 1) → ¬ (x ≡ 2) → ⊥
is_some_version First x e one two = one e
is_some_version Second x e one two = two e

pub is_version : (v w : Version) (o : Option Version) → o ≡ Some v → o ≡ Some w → v ≡ w
is_version v w o read is = cc

pub next_read : (v : Version) (s : ScenarioParts) (next : ℕ) (states : List Parts) (rows : List (List (List ℕ))) → AreRowsOf v s next states rows → (x : ℕ)
    → ((n : ℕ) → n < 2 ^ 64 → cell rows 0 2 ≡ decimal n → x ≡ n) → x ≡ next
unfolding checkpoint_rows
next_read v s next states rows h x says = says next (omega (arith, h.ranges.next_high, total_high s.model h.ranges.scenario.model)) (ap (λ rows. cell rows 0 2) h.rows_are)

pub for_scenario : (s : ScenarioParts) (ring : ℕ) (ps : List Policy) → IsRingSize ring → AreForScenario s.ring s.policies → ps ≡ s.policies → AreForScenario ring ps
for_scenario s ring ps size h e = subst (AreForScenario ring) (sym e) (record { size = size; some = h.some; few = h.few; ranges = h.ranges; names = h.names; differ = h.differ })

-- the text tells no ring
pub same_text : (v : Version) (s s' : ScenarioParts) (next next' : ℕ) (states states' : List Parts) → IsSameButRing s s' → next ≡ next' → states ≡ states' → checkpoint_text v s next states ≡ checkpoint_text v s' next' states'
unfolding checkpoint_text checkpoint_rows
same_text v s s' next next' states states' same en es = λ i. checkpoint_text v (record { key = same.key i; ring = s.ring; model = same.model i; policies = same.policies i }) (en i) (es i)

-- two scenarios with one ring that differ in their rings at most are the same
pub same_scenario : (s s' : ScenarioParts) → s.ring ≡ s'.ring → IsSameButRing s s' → s ≡ s'
same_scenario s s' ring same = λ i. record { key = same.key i; ring = ring i; model = same.model i; policies = same.policies i }

pub same_too : (s t u : ScenarioParts) → IsSameButRing s t → IsSameButRing t u → IsSameButRing s u
same_too s t u a b = record { key = a.key ∙ b.key; model = a.model ∙ b.model; policies = a.policies ∙ b.policies }

-- a text of a scenario is one of the same scenario
pub text_of_same : (v w : Version) (s t : ScenarioParts) (next : ℕ) (states : List Parts) (bytes : List ℕ) → v ≡ w → s.ring ≡ t.ring → IsSameButRing s t → IsTextIn v s next states bytes → IsTextIn w t next states bytes
text_of_same v w s t next states bytes version ring same h = subst (λ u. IsTextIn u t next states bytes) version (subst (λ u. IsTextIn v u next states bytes) (same_scenario s t ring same) h)

-- rows in a version are the same rows in the same version
pub rows_in : (v w : Version) (s : ScenarioParts) (next : ℕ) (states : List Parts) (rows rows' : List (List (List ℕ))) → v ≡ w → rows' ≡ rows → AreRowsOf v s next states rows → AreRowsOf w s next states rows'
rows_in v w s next states rows rows' e same h = subst (λ u. AreRowsOf u s next states rows') e (subst (λ rs. AreRowsOf v s next states rs) (sym same) h)

-- what is read of a checkpoint's text are its rows
pub rows_of_text : (v : Version) (s : ScenarioParts) (next : ℕ) (states : List Parts) (bytes : List ℕ) (items : List (List (List ℕ))) → IsTextIn v s next states bytes
    → ((rows : List (List (List ℕ))) → are_rows rows ≡ true → bytes ≡ rows_text rows → items ≡ rows) → {now : List (List (List ℕ))} → now ≡ items → AreRowsOf v s next states now
unfolding checkpoint_text
rows_of_text v s next states bytes items h reads {now} e = record { ranges = h.ranges; tells = h.tells; rows_are = e ∙ reads (checkpoint_rows v s next states) (rows_plain v s next states h.ranges) h.text_is }

-- a text in some version is one in whatever version
pub any_text : (v : Version) (s : ScenarioParts) (next : ℕ) (states : List Parts) (bytes : List ℕ) → IsTextIn v s next states bytes → IsAnyTextOf s next states bytes
any_text First s next states bytes text = inr text
any_text Second s next states bytes text = inl text

-- a block within a model's total is within that of the same model
pub within : (m m' : ModelParts) (n x : ℕ) → m' ≡ m → x ≡ n → n ≤ total m → x ≤ total m'
within m m' n x em en high = omega (arith, ap total em, en, high)
