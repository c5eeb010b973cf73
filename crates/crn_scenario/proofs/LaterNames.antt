-- Names from the last one on, each beside the later ones, which a set holds.
use Rattle.std.proofs.Common.{◌≡◌, ◌∙◌, ℕ, zero, suc, ◌+◌, ◌-◌, ◌<◌, Bool, true, false, cond, not, ◌&&◌, ◌||◌, List, [], ◌∷◌, Bor, map, drop, length, get_or, refl, sym, ap, subst, arith, nat_cmp, bytes_eq}
use Rattle.std.proofs.lemmas.List.{drop_more}
use Rattle.std.proofs.lemmas.Map.Text.{is_eq-slice_cmp}
use Rattle.std.specs.BTreeSet.{BTreeSet, contains, Updates}
use Rattle.std.specs.Cmp.Lexicographic.{slice_cmp}
use Rattle.crn_scenario.specs.Reading.{is_among, all_differ}

-- the texts of the last k
abbrev pub last_names : ℕ → List (Bor (List ℕ)) → List (List ℕ)
last_names k names = map (λ n. n.now) (drop (length names - k) names)

-- the set holds them, and no others
abbrev pub Holds : BTreeSet (Bor (List ℕ)) → List (List ℕ) → Type 0
Holds held names = (q : Bor (List ℕ)) → contains (λ x y. slice_cmp nat_cmp x.now y.now) held q ≡ is_among names q.now

one_more : (names : List (Bor (List ℕ))) (i : ℕ) (d : Bor (List ℕ)) → i < length names → last_names (i + 1) names ≡ (get_or names (length names - 1 - i) d).now ∷ last_names i names
one_more names i d lt =
    let j = length names - 1 - i in
    let place : length names - (i + 1) ≡ j = omega arith in
    let after : j + 1 ≡ length names - i = omega arith in
    let split : drop j names ≡ get_or names j d ∷ drop (j + 1) names = drop_more names j d (omega arith) in
    let here : drop j names ≡ get_or names j d ∷ drop (length names - i) names = subst (λ (m : ℕ). drop j names ≡ get_or names j d ∷ drop m names) after split in
    subst (λ (m : ℕ). map (λ n. n.now) (drop m names) ≡ (get_or names j d).now ∷ last_names i names) (sym place) (ap (λ ns. map (λ n. n.now) ns) here)

cond_or : (a b : Bool) → cond a true b ≡ (a || b)
cond_or true b = refl
cond_or false b = refl

pub still_holds : (names : List (Bor (List ℕ))) (i : ℕ) (d : Bor (List ℕ)) (old new : BTreeSet (Bor (List ℕ))) → i < length names → Holds old (last_names i names) → Updates (λ x y. slice_cmp nat_cmp x.now y.now) old new (get_or names (length names - 1 - i) d) true → Holds new (last_names (i + 1) names)
still_holds names i d old new lt h u = λ q.
    let name = get_or names (length names - 1 - i) d in
    let after : contains (λ x y. slice_cmp nat_cmp x.now y.now) new q ≡ cond (bytes_eq name.now q.now) true (is_among (last_names i names) q.now) = rw (is_eq-slice_cmp name.now q.now, h q) at (u.0 q) in
    rw (one_more names i d lt) (after ∙ cond_or (bytes_eq name.now q.now) (is_among (last_names i names) q.now))

differ_more : (a b : Bool) → true ≡ not a → b ≡ true → (not a && b) ≡ true
differ_more a b e h = rw (← e, h) refl

-- a name that is none of the later ones
pub still_differ : (names : List (Bor (List ℕ))) (i : ℕ) (d : Bor (List ℕ)) (held : BTreeSet (Bor (List ℕ))) → i < length names → Holds held (last_names i names) → true ≡ not (contains (λ x y. slice_cmp nat_cmp x.now y.now) held (get_or names (length names - 1 - i) d)) → all_differ (last_names i names) ≡ true → all_differ (last_names (i + 1) names) ≡ true
still_differ names i d held lt h e all =
    let name = get_or names (length names - 1 - i) d in
    rw (one_more names i d lt) (differ_more (is_among (last_names i names) name.now) (all_differ (last_names i names)) (rw (h name) at e) all)

and_false : (a b : Bool) → b ≡ false → (a && b) ≡ false
and_false true b h = h
and_false false b h = refl

among : (a b : Bool) → false ≡ not a → (not a && b) ≡ false
among a b e = rw (← e) refl

-- names that stand twice among the last ones do so among all
of_all : (k : ℕ) (names : List (Bor (List ℕ))) → all_differ (map (λ n. n.now) (drop k names)) ≡ false → all_differ (map (λ n. n.now) names) ≡ false
of_all zero names h = h
of_all (suc k) [] h = h
of_all (suc k) (n ∷ names) h = and_false _ _ (of_all k names h)

-- a name that is one of the later ones
pub stands_twice : (names : List (Bor (List ℕ))) (i : ℕ) (d : Bor (List ℕ)) (held : BTreeSet (Bor (List ℕ))) → i < length names → Holds held (last_names i names) → false ≡ not (contains (λ x y. slice_cmp nat_cmp x.now y.now) held (get_or names (length names - 1 - i) d)) → all_differ (map (λ n. n.now) names) ≡ false
stands_twice names i d held lt h e =
    let name = get_or names (length names - 1 - i) d in
    of_all (length names - (i + 1)) names (rw (one_more names i d lt) (among (is_among (last_names i names) name.now) (all_differ (last_names i names)) (rw (h name) at e)))
