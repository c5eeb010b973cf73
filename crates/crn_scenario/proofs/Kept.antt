-- What a tree without a fault gives: what stands in its tables, values and weights that can be drawn from, and the
-- conditions of a model.
use Rattle.std.proofs.Common.{◌≡◌, ℕ, zero, suc, ◌<◌, ◌≤◌, Bool, true, false, not, cond, ◌||◌, ◌==◌, List, [], ◌∷◌, length, slice_index_or, sym, ap, subst, Option, Some, None, refl, arith, lit<, ℤ, pos, negsuc, codes, ◌+◌, map, sum, ◌∙◌, nat_abs, All, Decides, nat_le, nat_lt, nat_eq, option_and_then, int_le, int_lt, is_some, ◌≤ℤ◌}
use Rattle.std.proofs.lemmas.Bool.{false≢true, and_parts, not-false, not-true, and_from, or_parts}
use Rattle.std.proofs.lemmas.Bool.Decides.{nat_tests, Decides-and}
use Rattle.std.proofs.lemmas.Int.{ints}
use Rattle.std.proofs.lemmas.List.{length-map}
use Rattle.std.proofs.lemmas.List.Elements.{All-cons, All-nil}
use Rattle.std.proofs.lemmas.List.Sums.{sum_by-cons}
use Rattle.std.specs.List.{list_all, list_any}
use Rattle.toml.specs.Data.{Data, integer, array, Items, Members, get_member, as_integer, as_array, as_table, no_items, item}
use Rattle.crn_limits.specs.declared.TheConstants.{PERIOD_LIMIT, REPLICATION_LIMIT}
use Rattle.crn_draw.specs.declared.weights.TheConstants.{TOTAL_LIMIT}
use Rattle.crn_draw.specs.Faults.{least_weights_fault, rises}
use Rattle.crn_stock.specs.declared.limits.TheConstants.{ITEM_LIMIT, LEAD_LIMIT, RATE_LIMIT, SETUP_LIMIT}
use Rattle.crn_stock.specs.Models.{IsModel, AreCosts, returned_values}
use Rattle.crn_scenario.specs.Tree.{integer_at, natural, table_at, count_items, are_integers, are_tables, integers_of, array_at, kept}
use Rattle.crn_scenario.specs.Fields.{Entry, entry, keys_of, number, numbers_within, keeps, keeps_at, keeps_at_all, is_within, are_within, is_of_kind, greatest_level}
use Rattle.crn_scenario.specs.Fields as fields
use Rattle.crn_scenario.specs.declared.fields.TheConstants.{NEWEST_VERSION}
use Rattle.crn_scenario.specs.declared.fields.ValueKind.{ValueKind}
use Rattle.crn_scenario.specs.declared.fields.ValueKind.TheVariants as kind
use Rattle.crn_scenario.specs.declared.fields.Rule.{Rule}
use Rattle.crn_scenario.specs.declared.fields.Rule.TheVariants as rule
use Rattle.crn_scenario.specs.Reading.{HasNone, version_of, inner_keep, all_keep, keeps_in, policies_at, is_version, has_other_version, has_unknown_key, lacks_key, has_other_kind, breaks_range, have_other_lengths, have_other_order, have_other_total, has_other_lengths_in, has_other_order_in, has_other_total_in, rise_above, total_of, integers_in, naturals_in, drawn, has_other_lengths, has_values_out_of_order, has_weights_out_of_range, cost_rates_of, returns_of, model_of}
use Rattle.crn_scenario.specs.Reading as reading
use Rattle.crn_scenario.specs.Inner.Reading.{AreDraws, MayBeDraws}

-- ---- numbers that are not below zero

within : (low high n : ℕ) → Decides (is_within (pos low) (pos high) (Some (pos n))) ((low ≤ n) × (n ≤ high))
within low high n =
    Decides-and (int_le (pos low) (pos n)) (int_le (pos n) (pos high))
    (λ e. grind (arith, ints, nat_tests, e), λ h. grind (arith, ints, nat_tests, h))
    (λ e. grind (arith, ints, nat_tests, e), λ h. grind (arith, ints, nat_tests, h))

-- a number within a range
pub record IsNumber (low high : ℕ) (o : Option ℤ) : Type 0 where
  pub value : ℕ
  pub is : o ≡ Some (pos value)
  pub at_least : low ≤ value
  pub at_most : value ≤ high

number_is : (low high : ℕ) (o : Option ℤ) → is_some o ≡ true → is_within (pos low) (pos high) o ≡ true → IsNumber low high o
number_is low high None some h = absurd (false≢true some)
number_is low high (Some (pos n)) some h =
    let parts = (within low high n).0 h in
    record { value = n; is = refl; at_least = parts.0; at_most = parts.1 }
number_is low high (Some (negsuc n)) some h = absurd (false≢true h)

-- ---- a fault that does not hold

pub one : (b : Bool) → ¬ ((b || false) ≡ true) → b ≡ false
one false h = refl
one true h = absurd (h refl)

-- ---- the version

-- one of the versions that there are
is_one : (o : Option ℤ) → is_version o ≡ true → IsNumber 1 NEWEST_VERSION o
is_one None h = absurd (false≢true h)
is_one (Some z) h = number_is 1 NEWEST_VERSION (Some z) refl h

version : (ms : Members) → HasNone ms → IsNumber 1 NEWEST_VERSION (integer_at (codes "version") ms)
unfolding has_other_version
version ms h = is_one (integer_at (codes "version") ms) (not-false (is_version (integer_at (codes "version") ms)) (one (has_other_version ms) (h.none 2)))

version_is : (ms : Members) (n : ℕ) → integer_at (codes "version") ms ≡ Some (pos n) → version_of ms ≡ n
unfolding version_of
version_is ms n e = ap natural e

-- no key of the inner tables and of the policies is newer than the version
pub record AreOld (version : ℕ) : Type 0 where
  pub costs : keys_of version fields.costs ≡ fields.costs
  pub demand : keys_of version fields.demand ≡ fields.demand
  pub lead : keys_of version fields.lead ≡ fields.lead
  pub returns : keys_of version fields.returns ≡ fields.returns
  pub policy : keys_of version fields.policy ≡ fields.policy

are_old : (version : ℕ) → nat_le 1 version ≡ true → AreOld version
unfolding keys_of
are_old version e = record { costs = rw e refl; demand = rw e refl; lead = rw e refl; returns = rw e refl; policy = rw e refl }

has_first : (ms : Members) → HasNone ms → nat_le 1 (version_of ms) ≡ true
has_first ms h =
    let v = version ms h in
    let low : 1 ≤ v.value = v.at_least in
    subst (λ (n : ℕ). nat_le 1 n ≡ true) (sym (version_is ms v.value v.is)) (grind (arith, nat_tests, low))

-- ---- the rules of all tables

pub record AllKeep (r : Rule) (ms : Members) : Type 0 where
  pub top : keeps r (keys_of (version_of ms) fields.top_table) ms ≡ true
  pub costs : keeps_in r fields.costs (table_at (codes "costs") ms) ≡ true
  pub demand : keeps_in r fields.demand (table_at (codes "demand") ms) ≡ true
  pub lead : keeps_in r fields.lead (table_at (codes "lead") ms) ≡ true
  pub returns : keeps_in r fields.returns (table_at (codes "returns") ms) ≡ true
  pub policies : list_all (keeps r fields.policy) (policies_at ms) ≡ true

-- a table keeps a rule with the same keys
pub same_in : (r : Rule) (es fs : List Entry) (o : Option Members) → es ≡ fs → keeps_in r es o ≡ true → keeps_in r fs o ≡ true
same_in r es fs o e h = subst (λ (x : List Entry). keeps_in r x o ≡ true) e h

-- no rule is broken
keeps_rule : (ms : Members) → HasNone ms → (r : Rule) → all_keep r ms ≡ true
unfolding has_unknown_key lacks_key has_other_kind breaks_range
keeps_rule ms h rule.Known = not-false (all_keep rule.Known ms) (one (has_unknown_key ms) (h.none 3))
keeps_rule ms h rule.Present = not-false (all_keep rule.Present ms) (one (lacks_key ms) (h.none 4))
keeps_rule ms h rule.Kinds = not-false (all_keep rule.Kinds ms) (one (has_other_kind ms) (h.none 5))
keeps_rule ms h rule.Ranges = not-false (all_keep rule.Ranges ms) (one (breaks_range ms) (h.none 6))

pub all_kept : (ms : Members) → HasNone ms → (r : Rule) → AllKeep r ms
unfolding all_keep inner_keep
all_kept ms none r =
    let all = and_parts _ _ (keeps_rule ms none r) in
    let tables = and_parts _ _ all.0 in
    let first_three = and_parts _ _ tables.1 in
    let first_two = and_parts _ _ first_three.0 in
    let first = and_parts _ _ first_two.0 in
    let keys = are_old (version_of ms) (has_first ms none) in
    record {
      top = tables.0;
      costs = same_in r _ _ _ keys.costs first.0;
      demand = same_in r _ _ _ keys.demand first.1;
      lead = same_in r _ _ _ keys.lead first_two.1;
      returns = same_in r _ _ _ keys.returns first_three.1;
      policies = subst (λ (es : List Entry). list_all (keeps r es) (policies_at ms) ≡ true) keys.policy all.1;
    }

-- ---- a table

-- a table keeps all rules
abbrev pub Kept : List Entry → Members → Type 0
Kept es ms = (r : Rule) → keeps r es ms ≡ true

-- what stands at a key keeps them
abbrev pub KeptAt : ValueKind → Option Data → Type 0
KeptAt k o = (r : Rule) → keeps_at r k o ≡ true

any_known : (es : List Entry) (ms : Members) → keeps_at_all rule.Known es ms ≡ true
any_known [] ms = refl
any_known (e ∷ es) ms = any_known es ms

-- each key keeps what the table does
keeps_each : (r : Rule) (es : List Entry) (ms : Members) → keeps r es ms ≡ true → keeps_at_all r es ms ≡ true
keeps_each rule.Known es ms h = any_known es ms
keeps_each r es ms h = h

kept_one : (r : Rule) (es : List Entry) (ms : Members) (i : ℕ) (d : Entry) → keeps_at_all r es ms ≡ true → i < length es → keeps_at r (slice_index_or es i d).kind (get_member (slice_index_or es i d).name ms) ≡ true
kept_one r [] ms i d h lt = absurd (omega (arith, lt))
kept_one r (e ∷ es) ms zero d h lt = (and_parts _ _ h).0
kept_one r (e ∷ es) ms (suc i) d h lt = kept_one r es ms i d (and_parts _ _ h).1 (omega (arith, lt))

pub kept_at : (es : List Entry) (ms : Members) (i : ℕ) (d : Entry) → Kept es ms → i < length es → KeptAt (slice_index_or es i d).kind (get_member (slice_index_or es i d).name ms)
kept_at es ms i d h lt r = kept_one r es ms i d (keeps_each r es ms (h r)) lt

-- ---- the document

-- the entry where a list of entries has none
pub nowhere : Entry
nowhere = entry [] kind.Integer

-- a key that the version has
one_held : (r : Rule) (version : ℕ) (es : List Entry) (ms : Members) (i : ℕ) → keeps_at_all r (keys_of version es) ms ≡ true → i < length es → nat_le (slice_index_or es i nowhere).since version ≡ true
    → keeps_at r (slice_index_or es i nowhere).kind (get_member (slice_index_or es i nowhere).name ms) ≡ true
unfolding keys_of
one_held r version [] ms i h lt since = absurd (omega (arith, lt))
one_held r version (e ∷ es) ms zero h lt since = (and_parts _ _ (rw since at h)).0
one_held r version (e ∷ es) ms (suc i) h lt since = one_held r version es ms i (rest (nat_le e.since version) e (keys_of version es) h) (omega (arith, lt)) since
  where
    rest : (b : Bool) (f : Entry) (fs : List Entry) → keeps_at_all r (cond b (f ∷ fs) fs) ms ≡ true → keeps_at_all r fs ms ≡ true
    rest true f fs k = (and_parts _ _ k).1
    rest false f fs k = k

pub held_at : (ms : Members) (i : ℕ) → HasNone ms → i < length fields.top_table → nat_le (slice_index_or fields.top_table i nowhere).since (version_of ms) ≡ true → KeptAt (slice_index_or fields.top_table i nowhere).kind (get_member (slice_index_or fields.top_table i nowhere).name ms)
held_at ms i h lt since r = one_held r (version_of ms) fields.top_table ms i (keeps_each r _ ms (all_kept ms h r).top) lt since

-- a key of all versions
pub top_at : (ms : Members) (i : ℕ) → HasNone ms → i < length fields.top_table → (slice_index_or fields.top_table i nowhere).since ≡ 1 → KeptAt (slice_index_or fields.top_table i nowhere).kind (get_member (slice_index_or fields.top_table i nowhere).name ms)
top_at ms i h lt e = held_at ms i h lt (subst (λ (n : ℕ). nat_le n (version_of ms) ≡ true) (sym e) (has_first ms h))

-- ---- what stands at a key

pub number_kept : (low high : ℕ) (o : Option Data) → KeptAt (number low high) o → IsNumber low high (option_and_then as_integer o)
number_kept low high None h = absurd (false≢true (h rule.Present))
number_kept low high (Some d) h = number_is low high (as_integer d) (h rule.Kinds) (h rule.Ranges)

-- something
pub record Stands {A : Type 0} (o : Option A) : Type 0 where
  pub value : A
  pub is : o ≡ Some value

stands : {A : Type 0} (o : Option A) → is_some o ≡ true → Stands o
stands None h = absurd (false≢true h)
stands (Some x) h = record { value = x; is = refl }

-- a value that is of its kind if it can be taken so
pub kept_as : {A : Type 0} (k : ValueKind) (take : Data → Option A) (o : Option Data) → ((d : Data) → is_of_kind k d ≡ true → is_some (take d) ≡ true) → KeptAt k o
    → Stands (option_and_then take o)
kept_as k take None can h = absurd (false≢true (h rule.Present))
kept_as k take (Some d) can h = stands (take d) (can d (h rule.Kinds))

-- a list of numbers within a range
pub record IsList (low high : ℕ) (o : Option Items) : Type 0 where
  pub items : Items
  pub is : o ≡ Some items
  pub integers : are_integers items ≡ true
  pub some : (count_items items == 0) ≡ false
  pub within : are_within (pos low) (pos high) (integers_of items) ≡ true

pub list_kept : (low high : ℕ) (o : Option Data) → KeptAt (numbers_within low high) o → IsList low high (option_and_then as_array o)
list_kept low high None h = absurd (false≢true (h rule.Present))
list_kept low high (Some (array ds)) h =
    let parts = and_parts (not (count_items ds == 0)) _ (h rule.Ranges) in
    record { items = ds; is = refl; integers = h rule.Kinds; some = not-true (count_items ds == 0) parts.0; within = parts.1 }
list_kept low high (Some d) h = absurd (false≢true (h rule.Kinds))

-- a list of tables
pub record IsTables (o : Option Items) : Type 0 where
  pub items : Items
  pub is : o ≡ Some items
  pub tables : are_tables items ≡ true

pub tables_kept : (o : Option Data) → KeptAt kind.Tables o → IsTables (option_and_then as_array o)
tables_kept None h = absurd (false≢true (h rule.Present))
tables_kept (Some (array ds)) h = record { items = ds; is = refl; tables = h rule.Kinds }
tables_kept (Some d) h = absurd (false≢true (h rule.Kinds))

-- ---- the inner tables

-- a table that stands there keeps the rules
inner : (es : List Entry) (o : Option Members) (t : Members) → o ≡ Some t → ((r : Rule) → keeps_in r es o ≡ true) → Kept es t
inner es o t e h r = subst (λ (x : Option Members). keeps_in r es x ≡ true) e (h r)

pub record IsKept (es : List Entry) (o : Option Members) : Type 0 where
  pub members : Members
  pub is : o ≡ Some members
  pub kept : Kept es members

pub costs_kept : (ms : Members) → HasNone ms → IsKept fields.costs (table_at (codes "costs") ms)
costs_kept ms h =
    let t = kept_as kind.Table as_table (get_member (codes "costs") ms) (λ d e. e) (top_at ms 6 h (lit< tt) refl) in
    record { members = t.value; is = t.is; kept = inner fields.costs (table_at (codes "costs") ms) t.value t.is (λ r. (all_kept ms h r).costs) }

pub demand_kept : (ms : Members) → HasNone ms → IsKept fields.demand (table_at (codes "demand") ms)
demand_kept ms h =
    let t = kept_as kind.Table as_table (get_member (codes "demand") ms) (λ d e. e) (top_at ms 7 h (lit< tt) refl) in
    record { members = t.value; is = t.is; kept = inner fields.demand (table_at (codes "demand") ms) t.value t.is (λ r. (all_kept ms h r).demand) }

-- what customers return, where a table stands there
pub returns_kept : (ms t : Members) → HasNone ms → table_at (codes "returns") ms ≡ Some t → Kept fields.returns t
returns_kept ms t h e = inner fields.returns (table_at (codes "returns") ms) t e (λ r. (all_kept ms h r).returns)

pub lead_kept : (ms : Members) → HasNone ms → IsKept fields.lead (table_at (codes "lead") ms)
lead_kept ms h =
    let t = kept_as kind.Table as_table (get_member (codes "lead") ms) (λ d e. e) (top_at ms 8 h (lit< tt) refl) in
    record { members = t.value; is = t.is; kept = inner fields.lead (table_at (codes "lead") ms) t.value t.is (λ r. (all_kept ms h r).lead) }

-- ---- lists of integers within a range

pub kept_length : {A : Type 0} (o : Option A) (xs : List A) → is_some o ≡ true → length (kept o xs) ≡ length xs + 1
kept_length None xs h = cc
kept_length (Some x) xs h = omega arith

length_integers : (ds : Items) → are_integers ds ≡ true → length (integers_of ds) ≡ count_items ds
length_integers no_items h = refl
length_integers (item d ds) h =
    let parts = and_parts (is_some (as_integer d)) (are_integers ds) h in
    omega (arith, kept_length (as_integer d) (integers_of ds) parts.0, length_integers ds parts.1)

widened : (low high : ℕ) (zs : List ℤ) → high ≤ TOTAL_LIMIT → are_within (pos low) (pos high) zs ≡ true → are_within (pos 0) (pos TOTAL_LIMIT) zs ≡ true
widened low high [] le h = refl
widened low high (pos n ∷ zs) le h =
    let parts = and_parts (is_within (pos low) (pos high) (Some (pos n))) (are_within (pos low) (pos high) zs) h in
    let range = (within low high n).0 parts.0 in
    and_from _ _ ((within 0 TOTAL_LIMIT n).1 (omega arith, omega arith)) (widened low high zs le parts.1)
widened low high (negsuc n ∷ zs) le h = absurd (false≢true h)

all_high : (low high : ℕ) (zs : List ℤ) → are_within (pos low) (pos high) zs ≡ true → All (λ v. v ≤ high) (map nat_abs zs)
all_high low high [] h = All-nil (λ v. v ≤ high)
all_high low high (pos n ∷ zs) h =
    let parts = and_parts (is_within (pos low) (pos high) (Some (pos n))) (are_within (pos low) (pos high) zs) h in
    All-cons (λ v. v ≤ high) n (map nat_abs zs) ((within low high n).0 parts.0).1 (all_high low high zs parts.1)
all_high low high (negsuc n ∷ zs) h = absurd (false≢true h)

all_low : (low high : ℕ) (zs : List ℤ) → are_within (pos low) (pos high) zs ≡ true → All (λ v. low ≤ v) (map nat_abs zs)
all_low low high [] h = All-nil (λ v. low ≤ v)
all_low low high (pos n ∷ zs) h =
    let parts = and_parts (is_within (pos low) (pos high) (Some (pos n))) (are_within (pos low) (pos high) zs) h in
    All-cons (λ v. low ≤ v) n (map nat_abs zs) ((within low high n).0 parts.0).0 (all_low low high zs parts.1)
all_low low high (negsuc n ∷ zs) h = absurd (false≢true h)

-- of a list within a range, the rest is
rest_within : (low high : ℕ) (z : ℤ) (zs : List ℤ) → are_within (pos low) (pos high) (z ∷ zs) ≡ true → are_within (pos low) (pos high) zs ≡ true
rest_within low high z zs h = (and_parts (is_within (pos low) (pos high) (Some z)) (are_within (pos low) (pos high) zs) h).1

above : (l n : ℕ) → int_lt (pos l) (pos n) ≡ true → nat_lt l n ≡ true
above l n h = grind (arith, ints, nat_tests, h)

rises_after : (low high l : ℕ) (zs : List ℤ) → are_within (pos low) (pos high) zs ≡ true → rise_above (Some (pos l)) zs ≡ true → rises (l ∷ map nat_abs zs) ≡ true
rises_after low high l [] h r = refl
rises_after low high l (pos n ∷ zs) h r =
    let parts = and_parts (int_lt (pos l) (pos n)) (rise_above (Some (pos n)) zs) r in
    and_from _ _ (above l n parts.0) (rises_after low high n zs (rest_within low high (pos n) zs h) parts.1)
rises_after low high l (negsuc n ∷ zs) h r = absurd (false≢true h)

pub do_rise : (low high : ℕ) (zs : List ℤ) → are_within (pos low) (pos high) zs ≡ true → rise_above None zs ≡ true → rises (map nat_abs zs) ≡ true
do_rise low high [] h r = refl
do_rise low high (pos n ∷ zs) h r = rises_after low high n zs (rest_within low high (pos n) zs h) r
do_rise low high (negsuc n ∷ zs) h r = absurd (false≢true h)

pub total-sum : (low high : ℕ) (zs : List ℤ) → are_within (pos low) (pos high) zs ≡ true → total_of zs ≡ pos (sum (map nat_abs zs))
total-sum low high [] h = refl
total-sum low high (pos n ∷ zs) h =
    omega (arith, ints, total-sum low high zs (rest_within low high (pos n) zs h), sum_by-cons (λ (y : ℕ). y) n (map nat_abs zs))
total-sum low high (negsuc n ∷ zs) h = absurd (false≢true h)

-- ---- values and weights that have no fault

pub lengths_agree : (o p : Option Items) (vs ws : Items) → o ≡ Some vs → p ≡ Some ws → have_other_lengths o p ≡ false → count_items vs ≡ count_items ws
lengths_agree o p vs ws e f h =
    let k : have_other_lengths (Some vs) (Some ws) ≡ false = subst (λ (x : Option Items). have_other_lengths x (Some ws) ≡ false) e (subst (λ (x : Option Items). have_other_lengths o x ≡ false) f h) in
    let same : (count_items vs == count_items ws) ≡ true = not-false (count_items vs == count_items ws) k in
    grind (arith, nat_tests, same)

pub order_kept : (o : Option Items) (vs : Items) → o ≡ Some vs → have_other_order o ≡ false → rise_above None (integers_of vs) ≡ true
order_kept o vs e h = not-false (rise_above None (integers_of vs)) (subst (λ (x : Option Items). have_other_order x ≡ false) e h)

pub total_kept : (o : Option Items) (ws : Items) → o ≡ Some ws → have_other_total o ≡ false → is_within (pos 1) (pos TOTAL_LIMIT) (Some (total_of (integers_of ws))) ≡ true
total_kept o ws e h = not-false (is_within (pos 1) (pos TOTAL_LIMIT) (Some (total_of (integers_of ws)))) (subst (λ (x : Option Items). have_other_total x ≡ false) e h)

none_of : (vs ws : List ℕ) → (length vs == 0) ≡ false → length vs ≡ length ws → rises vs ≡ true → 1 ≤ sum ws → sum ws ≤ TOTAL_LIMIT → least_weights_fault vs ws ≡ None
none_of vs ws some same rise low high =
    let e : nat_eq (length vs) 0 ≡ false = some in
    let f : nat_eq (length vs) (length ws) ≡ true = grind (arith, nat_tests) in
    let g : nat_lt 0 (sum ws) ≡ true = grind (arith, nat_tests) in
    let k : nat_le (sum ws) TOTAL_LIMIT ≡ true = grind (arith, nat_tests) in
    rw (e, f, rise, g, k) refl

-- ---- a table of values and weights, which can be drawn from

pub values_kept : (low high : ℕ) (t : Members) → Kept (fields.draws low high) t → IsList low high (array_at (codes "values") t)
values_kept low high t h = list_kept low high (get_member (codes "values") t) (kept_at (fields.draws low high) t 0 nowhere h (lit< tt))

pub weights_kept : (low high : ℕ) (t : Members) → Kept (fields.draws low high) t → IsList 0 TOTAL_LIMIT (array_at (codes "weights") t)
weights_kept low high t h = list_kept 0 TOTAL_LIMIT (get_member (codes "weights") t) (kept_at (fields.draws low high) t 1 nowhere h (lit< tt))

no_weights_fault : (low high : ℕ) (vs ws : Items) → are_integers vs ≡ true → are_integers ws ≡ true → (count_items vs == 0) ≡ false → count_items vs ≡ count_items ws → are_within (pos low) (pos high) (integers_of vs) ≡ true → are_within (pos 0) (pos TOTAL_LIMIT) (integers_of ws) ≡ true → rise_above None (integers_of vs) ≡ true → is_within (pos 1) (pos TOTAL_LIMIT) (Some (total_of (integers_of ws))) ≡ true → least_weights_fault (map nat_abs (integers_of vs)) (map nat_abs (integers_of ws)) ≡ None
no_weights_fault low high vs ws iv iw some same wv ww order total =
    let n = length-map (integers_of vs) nat_abs in
    let m = length-map (integers_of ws) nat_abs in
    let long : length (map nat_abs (integers_of vs)) ≡ count_items vs = n ∙ length_integers vs iv in
    let alike : length (map nat_abs (integers_of vs)) ≡ length (map nat_abs (integers_of ws)) = long ∙ same ∙ sym (m ∙ length_integers ws iw) in
    let filled : (length (map nat_abs (integers_of vs)) == 0) ≡ false = rw long some in
    let summed = subst (λ (x : ℤ). is_within (pos 1) (pos TOTAL_LIMIT) (Some x) ≡ true) (total-sum 0 TOTAL_LIMIT (integers_of ws) ww) total in
    let range = (within 1 TOTAL_LIMIT (sum (map nat_abs (integers_of ws)))).0 summed in
    none_of (map nat_abs (integers_of vs)) (map nat_abs (integers_of ws)) filled alike (do_rise low high (integers_of vs) wv order) range.0 range.1

-- the values at a key, once it is known what stands there
abbrev list_at : Option Items → List ℕ
list_at o = map nat_abs (integers_in o)

pub draws : (low high : ℕ) (t : Members) → high ≤ TOTAL_LIMIT → Kept (fields.draws low high) t → has_other_lengths_in (Some t) ≡ false → has_other_order_in (Some t) ≡ false → has_other_total_in (Some t) ≡ false → AreDraws (Some t)
draws low high t le h lengths order total =
    let v = values_kept low high t h in
    let w = weights_kept low high t h in
    let same = lengths_agree (array_at (codes "values") t) (array_at (codes "weights") t) v.items w.items v.is w.is lengths in
    let rise = order_kept (array_at (codes "values") t) v.items v.is order in
    let summed = total_kept (array_at (codes "weights") t) w.items w.is total in
    let free = no_weights_fault low high v.items w.items v.integers w.integers v.some same v.within w.within rise summed in
    record {
      values = subst (λ (o : Option Items). are_within (pos 0) (pos TOTAL_LIMIT) (integers_in o) ≡ true) (sym v.is) (widened low high (integers_of v.items) le v.within);
      weights = subst (λ (o : Option Items). are_within (pos 0) (pos TOTAL_LIMIT) (integers_in o) ≡ true) (sym w.is) w.within;
      no_fault = subst (λ (o : Option Items). least_weights_fault (list_at o) (list_at (array_at (codes "weights") t)) ≡ None) (sym v.is) (subst (λ (o : Option Items). least_weights_fault (list_at (Some v.items)) (list_at o) ≡ None) (sym w.is) free);
    }

pub values_high : (low high : ℕ) (t : Members) → Kept (fields.draws low high) t → All (λ v. v ≤ high) (naturals_in (codes "values") (Some t))
values_high low high t h =
    let v = values_kept low high t h in
    subst (λ (o : Option Items). All (λ n. n ≤ high) (list_at o)) (sym v.is) (all_high low high (integers_of v.items) v.within)

pub values_low : (low high : ℕ) (t : Members) → Kept (fields.draws low high) t → All (λ v. low ≤ v) (naturals_in (codes "values") (Some t))
values_low low high t h =
    let v = values_kept low high t h in
    subst (λ (o : Option Items). All (λ n. low ≤ n) (list_at o)) (sym v.is) (all_low low high (integers_of v.items) v.within)

-- ---- the tables of values and weights

-- a fault of values and weights that none of their tables has
pub record NoneHas (fault : Option Members → Bool) (ms : Members) : Type 0 where
  pub demand : fault (table_at (codes "demand") ms) ≡ false
  pub lead : fault (table_at (codes "lead") ms) ≡ false
  pub returns : fault (table_at (codes "returns") ms) ≡ false

none_has : (fault : Option Members → Bool) (ms : Members) → list_any (λ key. fault (table_at key ms)) drawn ≡ false → NoneHas fault ms
none_has fault ms h =
    let a = or_parts _ _ h in
    let b = or_parts _ _ a.1 in
    let c = or_parts _ _ b.1 in
    record { demand = a.0; lead = b.0; returns = c.0 }

pub lengths : (ms : Members) → HasNone ms → NoneHas has_other_lengths_in ms
unfolding has_other_lengths
lengths ms h = none_has has_other_lengths_in ms (one (has_other_lengths ms) (h.none 7))

pub orders : (ms : Members) → HasNone ms → NoneHas has_other_order_in ms
unfolding has_values_out_of_order
orders ms h = none_has has_other_order_in ms (one (has_values_out_of_order ms) (h.none 8))

pub totals : (ms : Members) → HasNone ms → NoneHas has_other_total_in ms
unfolding has_weights_out_of_range
totals ms h = none_has has_other_total_in ms (one (has_weights_out_of_range ms) (h.none 9))

draws_at : (low high : ℕ) (o : Option Members) (t : Members) → high ≤ TOTAL_LIMIT → o ≡ Some t → Kept (fields.draws low high) t → has_other_lengths_in o ≡ false → has_other_order_in o ≡ false → has_other_total_in o ≡ false → AreDraws o
draws_at low high o t le e k a b c = rw e (draws low high t le k (rw e at a) (rw e at b) (rw e at c))

pub demand_draws : (ms : Members) → HasNone ms → AreDraws (table_at (codes "demand") ms)
demand_draws ms h =
    let t = demand_kept ms h in
    draws_at 0 ITEM_LIMIT (table_at (codes "demand") ms) t.members (omega arith) t.is t.kept (lengths ms h).demand (orders ms h).demand (totals ms h).demand

pub lead_draws : (ms : Members) → HasNone ms → AreDraws (table_at (codes "lead") ms)
lead_draws ms h =
    let t = lead_kept ms h in
    draws_at 1 LEAD_LIMIT (table_at (codes "lead") ms) t.members (omega arith) t.is t.kept (lengths ms h).lead (orders ms h).lead (totals ms h).lead

may_draw : (o : Option Members) → ((t : Members) → o ≡ Some t → AreDraws (Some t)) → MayBeDraws o
may_draw None f = tt
may_draw (Some t) f = f t refl

pub returns_draws : (ms : Members) → HasNone ms → MayBeDraws (table_at (codes "returns") ms)
returns_draws ms h =
    may_draw (table_at (codes "returns") ms) (λ t e.
    subst (λ (x : Option Members). AreDraws x) e
    (draws_at 0 ITEM_LIMIT (table_at (codes "returns") ms) t (omega arith) e (returns_kept ms t h e) (lengths ms h).returns (orders ms h).returns (totals ms h).returns))

returned_high : (o : Option Members) → ((t : Members) → o ≡ Some t → Kept fields.returns t) → All (λ v. v ≤ ITEM_LIMIT) (returned_values (returns_of o))
returned_high None f = All-nil (λ v. v ≤ ITEM_LIMIT)
returned_high (Some t) f = values_high 0 ITEM_LIMIT t (f t refl)

-- ---- the model

-- a number within a range, as the reader takes it
pub record IsTaken (low high n : ℕ) (z : ℤ) : Type 0 where
  pub low_is : low ≤ n
  pub high_is : n ≤ high
  pub signed : z ≡ pos n

pub taken : (low high : ℕ) (o : Option ℤ) → IsNumber low high o → IsTaken low high (natural o) (reading.integer o)
taken low high o h =
    subst (λ (x : Option ℤ). IsTaken low high (natural x) (reading.integer x)) (sym h.is) (record { low_is = h.at_least; high_is = h.at_most; signed = refl })

pub periods : (ms : Members) → HasNone ms → IsTaken 1 PERIOD_LIMIT (natural (integer_at (codes "periods") ms)) (reading.integer (integer_at (codes "periods") ms))
periods ms h = taken 1 PERIOD_LIMIT (integer_at (codes "periods") ms) (number_kept 1 PERIOD_LIMIT (get_member (codes "periods") ms) (top_at ms 2 h (lit< tt) refl))

pub replications : (ms : Members) → HasNone ms → IsTaken 1 REPLICATION_LIMIT (natural (integer_at (codes "replications") ms)) (reading.integer (integer_at (codes "replications") ms))
replications ms h = taken 1 REPLICATION_LIMIT (integer_at (codes "replications") ms) (number_kept 1 REPLICATION_LIMIT (get_member (codes "replications") ms) (top_at ms 3 h (lit< tt) refl))

initial : (ms : Members) → HasNone ms → IsTaken 0 greatest_level (natural (integer_at (codes "initial") ms)) (reading.integer (integer_at (codes "initial") ms))
initial ms h = taken 0 greatest_level (integer_at (codes "initial") ms) (number_kept 0 greatest_level (get_member (codes "initial") ms) (top_at ms 4 h (lit< tt) refl))

costs_in : (t : Members) → Kept fields.costs t → AreCosts (cost_rates_of (Some t))
costs_in t k = record {
  setup = (taken 0 SETUP_LIMIT _ (number_kept 0 SETUP_LIMIT (get_member (codes "setup") t) (kept_at fields.costs t 0 nowhere k (lit< tt)))).high_is;
  unit = (taken 0 RATE_LIMIT _ (number_kept 0 RATE_LIMIT (get_member (codes "unit") t) (kept_at fields.costs t 1 nowhere k (lit< tt)))).high_is;
  holding = (taken 0 RATE_LIMIT _ (number_kept 0 RATE_LIMIT (get_member (codes "holding") t) (kept_at fields.costs t 2 nowhere k (lit< tt)))).high_is;
  backlog = (taken 0 RATE_LIMIT _ (number_kept 0 RATE_LIMIT (get_member (codes "backlog") t) (kept_at fields.costs t 3 nowhere k (lit< tt)))).high_is;
}

pub costs_fit : (ms : Members) → HasNone ms → AreCosts (cost_rates_of (table_at (codes "costs") ms))
costs_fit ms h =
    let t = costs_kept ms h in
    subst (λ (o : Option Members). AreCosts (cost_rates_of o)) (sym t.is) (costs_in t.members t.kept)

pub from_low : (low high n : ℕ) (z : ℤ) → IsTaken low high n z → pos 0 ≤ℤ z
from_low low high n z h = let e : z ≡ pos n = h.signed in omega (arith, ints)

pub to_high : (low high n : ℕ) (z : ℤ) → IsTaken low high n z → z ≤ℤ pos high
to_high low high n z h = let e : z ≡ pos n = h.signed in let k : n ≤ high = h.high_is in omega (arith, ints)

pub model_fits : (ms : Members) → HasNone ms → IsModel (model_of ms)
model_fits ms h =
    let d = demand_kept ms h in
    let l = lead_kept ms h in
    record {
      periods_low = (periods ms h).low_is;
      periods_high = (periods ms h).high_is;
      replications_low = (replications ms h).low_is;
      replications_high = (replications ms h).high_is;
      initial_low = from_low 0 greatest_level _ _ (initial ms h);
      initial_high = to_high 0 greatest_level _ _ (initial ms h);
      costs = costs_fit ms h;
      demand = subst (λ (o : Option Members). All (λ v. v ≤ ITEM_LIMIT) (naturals_in (codes "values") o)) (sym d.is) (values_high 0 ITEM_LIMIT d.members d.kept);
      lead_low = subst (λ (o : Option Members). All (λ v. 1 ≤ v) (naturals_in (codes "values") o)) (sym l.is) (values_low 1 LEAD_LIMIT l.members l.kept);
      lead_high = subst (λ (o : Option Members). All (λ v. v ≤ LEAD_LIMIT) (naturals_in (codes "values") o)) (sym l.is) (values_high 1 LEAD_LIMIT l.members l.kept);
      returns = returned_high (table_at (codes "returns") ms) (λ t e. returns_kept ms t h e);
    }
