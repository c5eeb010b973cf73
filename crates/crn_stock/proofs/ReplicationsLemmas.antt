-- A list of draws, replication by replication.
use Rattle.std.proofs.Common.{◌≡◌, ℕ, ◌+◌, ◌<◌, ◌≤◌, Bool, true, false, cond, List, [], ◌∷◌, ◌++◌, All, map, length, append_assoc, reverse, refl, sym, ap, subst, ◌∙◌, arith, nat_eq}
use Rattle.std.specs.Prelude.{ℤ}
use Rattle.std.proofs.lemmas.Bool.Decides.{nat_tests}
use Rattle.std.proofs.lemmas.List.Elements.{All-head, All-tail}
use Rattle.std.proofs.lemmas.List.{reverse-append, length-reverse, append-nil}
use Rattle.crn_stock.specs.declared.policy.Policy.{Policy}
use Rattle.crn_stock.specs.Parts.{Parts}
use Rattle.crn_stock.specs.Models.{ModelParts}
use Rattle.crn_stock.specs.Stock.{terms_of, Draw, Terms, Beginning, running, Standing, IsStanding, fresh_beginning, standing_after, standing, from_parts, StateOf, IsOnward}
use Rattle.crn_stock.specs.Replications.{all_draws, replication_cost, beginning_of, IsAfterReplications, IsInSameReplication, IsInLaterReplication}

module _ (p : Terms) (n : ℕ) (x : ℤ) where
  -- the draws h after the draws g, each the newest first
  pub standing-append : (c : Standing) (h g : List Draw) → standing p n x c (h ++ g) ≡ standing p n x (standing p n x c g) h
  standing-append c [] g = refl
  standing-append c (d ∷ h) g = ap (standing_after p n x d) (standing-append c h g)

  -- a replication under way from period t on, after the costs ks
  abbrev begun : List ℕ → ℕ → Beginning → Standing
  begun ks t b = record { costs = ks; first = t; beginning = b; draws = [] }

  -- a replication from its first period on
  abbrev begun_anew : List ℕ → Standing
  begun_anew ks = begun ks 0 (fresh_beginning x)

  -- fewer draws than end the replication
  within_one : (ks : List ℕ) (t : ℕ) (b : Beginning) (h : List Draw) → t + length h < n → standing p n x (begun ks t b) h ≡ record (begun ks t b) { draws = h }
  within_one ks t b [] lt = refl
  within_one ks t b (d ∷ h) lt =
      let test : nat_eq (t + length h + 1) n ≡ false = grind (arith, nat_tests, lt) in
      ap (standing_after p n x d) (within_one ks t b h (omega (arith, lt)))
      ∙ ap (λ (f : Bool). cond f (begun_anew (ks ++ running p b (d ∷ h) ∷ [])) (record (begun ks t b) { draws = d ∷ h })) test

  -- just as many
  whole_one : (ks : List ℕ) (t : ℕ) (b : Beginning) (h : List Draw) → t < n → t + length h ≡ n → standing p n x (begun ks t b) h ≡ begun_anew (ks ++ running p b h ∷ [])
  whole_one ks t b [] lt e = absurd (omega (arith, lt, e))
  whole_one ks t b (d ∷ h) lt e =
      let test : nat_eq (t + length h + 1) n ≡ true = grind (arith, nat_tests, e) in
      ap (standing_after p n x d) (within_one ks t b h (omega (arith, e)))
      ∙ ap (λ (f : Bool). cond f (begun_anew (ks ++ running p b (d ∷ h) ∷ [])) (record (begun ks t b) { draws = d ∷ h })) test

  -- several replications
  whole_all : (ks : List ℕ) (whole : List (List Draw)) → 1 ≤ n → All (λ ds. length ds ≡ n) whole
      → standing p n x (begun_anew ks) (reverse (all_draws whole)) ≡ begun_anew (ks ++ map (replication_cost p x) whole)
  whole_all ks [] some all = ap begun_anew (sym (append-nil ks))
  whole_all ks (ds ∷ rest) some all =
      let split : reverse (ds ++ all_draws rest) ≡ reverse (all_draws rest) ++ reverse ds = reverse-append ds (all_draws rest) in
      let long : length ds ≡ n = All-head (λ (h : List Draw). length h ≡ n) ds rest all in
      let one : standing p n x (begun_anew ks) (reverse ds) ≡ begun_anew (ks ++ replication_cost p x ds ∷ []) =
      whole_one ks 0 (fresh_beginning x) (reverse ds) (omega (arith, some)) (omega (arith, length-reverse ds, long)) in
      ap (standing p n x (begun_anew ks)) split ∙ standing-append (begun_anew ks) (reverse (all_draws rest)) (reverse ds)
      ∙ ap (λ (c : Standing). standing p n x c (reverse (all_draws rest))) one
      ∙ whole_all (ks ++ replication_cost p x ds ∷ []) rest some (All-tail (λ (h : List Draw). length h ≡ n) ds rest all)
      ∙ ap begun_anew (append_assoc ks (replication_cost p x ds ∷ []) (map (replication_cost p x) rest))

  -- several replications and a part of the next one
  after_whole : (ks : List ℕ) (whole : List (List Draw)) (ds : List Draw) → 1 ≤ n → All (λ h. length h ≡ n) whole → length ds < n
      → standing p n x (begun_anew ks) (reverse (all_draws whole ++ ds)) ≡ record (begun_anew (ks ++ map (replication_cost p x) whole)) { draws = reverse ds }
  after_whole ks whole ds some all lt =
      ap (standing p n x (begun_anew ks)) (reverse-append (all_draws whole) ds) ∙ standing-append (begun_anew ks) (reverse ds) (reverse (all_draws whole))
      ∙ ap (λ (c : Standing). standing p n x c (reverse ds)) (whole_all ks whole some all)
      ∙ within_one (ks ++ map (replication_cost p x) whole) 0 (fresh_beginning x) (reverse ds) (omega (arith, length-reverse ds, lt))

-- the state after whole replications and a part of the next one
pub after_replications : (m : ModelParts) (policy : Policy) (whole : List (List Draw)) (ds : List Draw) (v : Parts) → 1 ≤ m.periods
    → All (λ h. length h ≡ m.periods) whole → length ds < m.periods → StateOf m policy (all_draws whole ++ ds) v
    → IsAfterReplications (terms_of policy m.costs) m.initial whole ds v
after_replications m policy whole ds v some all lt s =
    let p = terms_of policy m.costs in
    let at = after_whole p m.periods m.initial [] whole ds some all lt in
    let here = subst (λ (c : Standing). IsStanding p c v) at s.stands in
    record {
      costs_are = here.costs_are;
      period_is = omega (arith, here.period_is, length-reverse ds);
      within = here.within;
    }

-- the state that was q, in the replication that q had under way
pub in_same_replication : (p : Terms) (q : Parts) (ds : List Draw) (v : Parts) → q.period + length ds < q.periods → IsOnward p q ds v → IsInSameReplication p q ds v
in_same_replication p q ds v lt s =
    let at = within_one p q.periods q.initial q.costs q.period (beginning_of q) (reverse ds) (omega (arith, length-reverse ds, lt)) in
    let here = subst (λ (c : Standing). IsStanding p c v) at s.stands in
    record {
      costs_are = here.costs_are;
      period_is = omega (arith, here.period_is, length-reverse ds);
      within = here.within;
    }

-- the state that was q, in a later one
pub in_later_replication : (p : Terms) (q : Parts) (first : List Draw) (whole : List (List Draw)) (ds : List Draw) (v : Parts)
    → q.period < q.periods → q.period + length first ≡ q.periods → All (λ h. length h ≡ q.periods) whole → length ds < q.periods
    → IsOnward p q (first ++ all_draws whole ++ ds) v → IsInLaterReplication p q first whole ds v
in_later_replication p q first whole ds v under_way end all lt s =
    let n = q.periods in
    let x = q.initial in
    let later = all_draws whole ++ ds in
    let ks = q.costs ++ running p (beginning_of q) (reverse first) ∷ [] in
    let same : first ++ all_draws whole ++ ds ≡ first ++ later = append_assoc first (all_draws whole) ds in
    let at = ap (λ (h : List Draw). standing p n x (from_parts q) (reverse h)) same
    ∙ ap (standing p n x (from_parts q)) (reverse-append first later) ∙ standing-append p n x (from_parts q) (reverse later) (reverse first)
    ∙ ap (λ (c : Standing). standing p n x c (reverse later)) (whole_one p n x q.costs q.period (beginning_of q) (reverse first) under_way (omega (arith, length-reverse first, end)))
    ∙ after_whole p n x ks whole ds (omega (arith, under_way)) all lt in
    let here = subst (λ (c : Standing). IsStanding p c v) at s.stands in
    record {
      costs_are = here.costs_are ∙ append_assoc q.costs (running p (beginning_of q) (reverse first) ∷ []) (map (replication_cost p x) whole);
      period_is = omega (arith, here.period_is, length-reverse ds);
      within = here.within;
    }
