-- The policies of a tree without a fault are those of a scenario.
use Rattle.std.proofs.Common.{◌≡◌, ◌≢◌, ℕ, ◌≤◌, true, false, not, ◌&&◌, List, [], ◌∷◌, length, map, subst, Option, Some, None, refl, sym, ap, ◌∙◌, arith, lit<, ℤ, pos, negsuc, codes, nat_abs, All, nat_le, ◌≤ℤ◌, int_le, option_and_then, is_some, bytes_eq}
use Rattle.std.proofs.lemmas.Bool.{false≢true, and_parts, not-false, not-true, or_parts}
use Rattle.std.proofs.lemmas.Bool.Decides.{nat_tests}
use Rattle.std.proofs.lemmas.Int.{ints}
use Rattle.std.proofs.lemmas.List.{length-map}
use Rattle.std.proofs.lemmas.List.Elements.{All-cons, All-nil}
use Rattle.std.proofs.lemmas.List.Kept.{AllPairs-cons}
use Rattle.std.proofs.lemmas.Slice.Eq.{bytes_eq-Decides}
use Rattle.std.specs.Int.{is_power_of_two}
use Rattle.std.specs.List.{AllPairs, list_all}
use Rattle.crn_limits.specs.declared.TheConstants.{POLICY_LIMIT, SLOT_LIMIT}
use Rattle.crn_limits.specs.Limits.{IsRingSize}
use Rattle.toml.specs.Data.{Items, no_items, item, Members, get_member, as_table, as_str, as_integer}
use Rattle.crn_stock.specs.declared.policy.Policy.{Policy}
use Rattle.crn_stock.specs.Models.{IsPolicy, AreForScenario}
use Rattle.crn_spelling.specs.Names.{is_name}
use Rattle.crn_scenario.specs.Tree.{integer_at, natural, text_at, array_at, tables_of, count_items, are_tables, kept}
use Rattle.crn_scenario.specs.Fields.{keeps, greatest_level}
use Rattle.crn_scenario.specs.Fields as fields
use Rattle.crn_scenario.specs.declared.fields.ValueKind.TheVariants as kind
use Rattle.crn_scenario.specs.declared.fields.Rule.{Rule}
use Rattle.crn_scenario.specs.Reading.{HasNone, policies_in, policies_at, has_levels_in_order, are_in_order, has_low_above_high, names_in, names_at, is_among, all_differ, are_good_names, has_bad_name, is_ring_size, is_other_ring, has_other_ring, is_other_count, has_other_policy_count, integer, text, policy_of}
use Rattle.crn_scenario.proofs.Kept.{nowhere, Kept, kept_at, top_at, all_kept, one, IsNumber, number_kept, kept_length, Stands, kept_as, tables_kept, taken, from_low, to_high}

-- ---- a policy

-- a table that keeps all rules of a policy
pub record IsGood (t : Members) : Type 0 where
  pub kept : Kept fields.policy t
  pub levels : has_levels_in_order t ≡ true

levels_in_order : (o p : Option ℤ) → IsNumber 0 greatest_level o → IsNumber 0 greatest_level p → are_in_order o p ≡ true → integer o ≤ℤ integer p
levels_in_order o p f g h =
    let k : int_le (pos f.value) (pos g.value) ≡ true = rw (f.is, g.is) at h in
    rw (f.is, g.is) (grind (arith, ints, nat_tests, k))

low_number : (t : Members) → Kept fields.policy t → IsNumber 0 greatest_level (integer_at (codes "s") t)
low_number t k = number_kept 0 greatest_level (get_member (codes "s") t) (kept_at fields.policy t 1 nowhere k (lit< tt))

high_number : (t : Members) → Kept fields.policy t → IsNumber 0 greatest_level (integer_at (codes "S") t)
high_number t k = number_kept 0 greatest_level (get_member (codes "S") t) (kept_at fields.policy t 2 nowhere k (lit< tt))

policy_fits : (t : Members) → IsGood t → IsPolicy (policy_of t)
policy_fits t g =
    let low = low_number t g.kept in
    let high = high_number t g.kept in
    record {
      low = from_low 0 greatest_level _ _ (taken 0 greatest_level (integer_at (codes "s") t) low);
      order = levels_in_order (integer_at (codes "s") t) (integer_at (codes "S") t) low high g.levels;
      high = to_high 0 greatest_level _ _ (taken 0 greatest_level (integer_at (codes "S") t) high);
    }

-- ---- all of them

-- each table of a list is good
abbrev pub AreGood : List Members → Type 0
AreGood [] = Unit {0}
AreGood (t ∷ ts) = IsGood t × AreGood ts

are_good : (ts : List Members) → ((r : Rule) → list_all (keeps r fields.policy) ts ≡ true) → list_all has_levels_in_order ts ≡ true → AreGood ts
are_good [] k l = tt
are_good (t ∷ ts) k l =
    let each = λ (r : Rule). and_parts (keeps r fields.policy t) (list_all (keeps r fields.policy) ts) (k r) in
    let d = and_parts (has_levels_in_order t) (list_all has_levels_in_order ts) l in
    (record { kept = λ r. (each r).0; levels = d.0 }, are_good ts (λ r. (each r).1) d.1)

policies_fit : (ts : List Members) → AreGood ts → All IsPolicy (map policy_of ts)
policies_fit [] g = All-nil IsPolicy
policies_fit (t ∷ ts) g = All-cons IsPolicy (policy_of t) (map policy_of ts) (policy_fits t g.0) (policies_fit ts g.1)

-- ---- their names

abbrev pub name_in : Members → List ℕ
name_in t = text (text_at (codes "name") t)

named : (t : Members) → Kept fields.policy t → Stands (text_at (codes "name") t)
named t k = kept_as kind.Text as_str (get_member (codes "name") t) (λ d e. e) (kept_at fields.policy t 0 nowhere k (lit< tt))

kept_text : (o : Option (List ℕ)) (rest : List (List ℕ)) → Stands o → kept o rest ≡ text o ∷ rest
kept_text o rest h = subst (λ (x : Option (List ℕ)). kept x rest ≡ text x ∷ rest) (sym h.is) refl

names_one : (o : Option Members) (names : List (List ℕ)) (ts : List Members) → AreGood (kept o ts) → names ≡ map name_in ts → kept (option_and_then (text_at (codes "name")) o) names ≡ map name_in (kept o ts)
names_one None names ts g e = e
names_one (Some t) names ts g e = kept_text (text_at (codes "name") t) names (named t g.0.kept) ∙ ap (λ (x : List (List ℕ)). name_in t ∷ x) e

rest_good : (o : Option Members) (ts : List Members) → AreGood (kept o ts) → AreGood ts
rest_good None ts g = g
rest_good (Some t) ts g = g.1

pub names_are : (ds : Items) → AreGood (tables_of ds) → names_in ds ≡ map name_in (tables_of ds)
names_are no_items g = refl
names_are (item d ds) g = names_one (as_table d) (names_in ds) (tables_of ds) g (names_are ds (rest_good (as_table d) (tables_of ds) g))

pub names_good : (ts : List Members) → list_all is_name (map name_in ts) ≡ true → All (λ p. is_name p.name ≡ true) (map policy_of ts)
names_good [] h = All-nil (λ (p : Policy). is_name p.name ≡ true)
names_good (t ∷ ts) h =
    let parts = and_parts (is_name (name_in t)) (list_all is_name (map name_in ts)) h in
    All-cons (λ (p : Policy). is_name p.name ≡ true) (policy_of t) (map policy_of ts) parts.0 (names_good ts parts.1)

unlike : (n m : List ℕ) → bytes_eq n m ≡ false → m ≢ n
unlike n m h e = false≢true (sym h ∙ (bytes_eq-Decides n m).1 (sym e))

not_among : (n : List ℕ) (ts : List Members) → is_among (map name_in ts) n ≡ false → All (λ q. n ≢ q.name) (map policy_of ts)
not_among n [] h = All-nil (λ (q : Policy). n ≢ q.name)
not_among n (t ∷ ts) h =
    let parts = or_parts (bytes_eq (name_in t) n) (is_among (map name_in ts) n) h in
    All-cons (λ (q : Policy). n ≢ q.name) (policy_of t) (map policy_of ts) (unlike (name_in t) n parts.0) (not_among n ts parts.1)

names_differ : (ts : List Members) → all_differ (map name_in ts) ≡ true → AllPairs (λ p q. p.name ≢ q.name) (map policy_of ts)
names_differ [] h = λ i j d l k. absurd (omega (arith, k))
names_differ (t ∷ ts) h =
    let parts = and_parts (not (is_among (map name_in ts) (name_in t))) (all_differ (map name_in ts)) h in
    AllPairs-cons (λ (p q : Policy). p.name ≢ q.name) (policy_of t) (map policy_of ts) (not_among (name_in t) ts (not-true (is_among (map name_in ts) (name_in t)) parts.0)) (names_differ ts parts.1)

-- ---- how many

count_tables : (ds : Items) → are_tables ds ≡ true → length (tables_of ds) ≡ count_items ds
count_tables no_items h = refl
count_tables (item d ds) h =
    let parts = and_parts (is_some (as_table d)) (are_tables ds) h in
    omega (arith, kept_length (as_table d) (tables_of ds) parts.0, count_tables ds parts.1)

-- ---- the ring

pub ring_is : (z : ℤ) → is_ring_size z ≡ true → IsRingSize (nat_abs z)
unfolding is_ring_size
ring_is (pos n) h =
    let parts = and_parts (is_power_of_two n) (nat_le n SLOT_LIMIT) h in
    (parts.0, grind (arith, nat_tests, parts.1))
ring_is (negsuc n) h = absurd (false≢true h)

ring_fits : (o : Option ℤ) → Stands o → is_other_ring o ≡ false → IsRingSize (natural o)
ring_fits o i h =
    let k : is_ring_size i.value ≡ true = not-false (is_ring_size i.value) (subst (λ (x : Option ℤ). is_other_ring x ≡ false) i.is h) in
    subst (λ (x : Option ℤ). IsRingSize (natural x)) (sym i.is) (ring_is i.value k)

-- ---- a scenario's policies

are_policies : (ring : ℕ) (ds : Items) → IsRingSize ring → are_tables ds ≡ true → AreGood (tables_of ds) → are_good_names (names_in ds) ≡ true
    → is_other_count (Some ds) ≡ false → AreForScenario ring (map policy_of (tables_of ds))
are_policies ring ds size tables good names count =
    let n : length (map policy_of (tables_of ds)) ≡ count_items ds = length-map (tables_of ds) policy_of ∙ count_tables ds tables in
    let range : (nat_le 1 (count_items ds) && nat_le (count_items ds) POLICY_LIMIT) ≡ true = not-false (nat_le 1 (count_items ds) && nat_le (count_items ds) POLICY_LIMIT) count in
    let bounds = and_parts (nat_le 1 (count_items ds)) (nat_le (count_items ds) POLICY_LIMIT) range in
    let low : 1 ≤ count_items ds = grind (arith, nat_tests, bounds.0) in
    let high : count_items ds ≤ POLICY_LIMIT = grind (arith, nat_tests, bounds.1) in
    let texts = subst (λ (x : List (List ℕ)). are_good_names x ≡ true) (names_are ds good) names in
    let parts = and_parts (list_all is_name (map name_in (tables_of ds))) (all_differ (map name_in (tables_of ds))) texts in
    record {
      size = size;
      some = omega arith;
      few = omega arith;
      ranges = policies_fit (tables_of ds) good;
      names = names_good (tables_of ds) parts.0;
      differ = names_differ (tables_of ds) parts.1;
    }

pub scenario_fits : (ms : Members) → HasNone ms → AreForScenario (natural (integer_at (codes "ring") ms)) (map policy_of (policies_at ms))
unfolding has_low_above_high has_bad_name has_other_ring has_other_policy_count
scenario_fits ms h =
    let t = tables_kept (get_member (codes "policy") ms) (top_at ms 9 h (lit< tt) refl) in
    let number = kept_as kind.Integer as_integer (get_member (codes "ring") ms) (λ d e. e) (top_at ms 5 h (lit< tt) refl) in
    let size = ring_fits (integer_at (codes "ring") ms) number (one _ (h.none 12)) in
    let levels = not-false (list_all has_levels_in_order (policies_at ms)) (one _ (h.none 10)) in
    let good : AreGood (tables_of t.items) = subst (λ (o : Option Items). AreGood (policies_in o)) t.is (are_good (policies_at ms) (λ r. (all_kept ms h r).policies) levels) in
    let named = not-false (are_good_names (names_at (array_at (codes "policy") ms))) (one _ (h.none 11)) in
    let names : are_good_names (names_in t.items) ≡ true = subst (λ (o : Option Items). are_good_names (names_at o) ≡ true) t.is named in
    let count : is_other_count (Some t.items) ≡ false = subst (λ (o : Option Items). is_other_count o ≡ false) t.is (one _ (h.none 13)) in
    subst (λ (o : Option Items). AreForScenario (natural (integer_at (codes "ring") ms)) (map policy_of (policies_in o))) (sym t.is) (are_policies _ t.items size t.tables good names count)

-- a scenario with the parts that the tree says
pub fits_as : (ms : Members) (ring : ℕ) (policies : List Policy) → ring ≡ natural (integer_at (codes "ring") ms) → policies ≡ map policy_of (policies_at ms) → AreForScenario (natural (integer_at (codes "ring") ms)) (map policy_of (policies_at ms)) → AreForScenario ring policies
fits_as ms ring policies e f h = rw (e, f) h
