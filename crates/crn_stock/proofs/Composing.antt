-- What is onward from a state is onward from what that state is onward from, and so are the states of draws.
use Rattle.std.proofs.Common.{◌≡◌, ℕ, zero, suc, ◌+◌, ◌<◌, ◌≤◌, ◌⊎◌, Bool, true, false, cond, List, [], ◌∷◌, ◌++◌, length, slice_index, reverse, length-append, refl, sym, ap, subst, ◌∙◌, arith, nat_lt, nat_eq, inl, inr}
use Rattle.std.specs.Prelude.{ℤ}
use Rattle.std.proofs.lemmas.Int.{ints}
use Rattle.std.proofs.lemmas.Bool.{cases_lt}
use Rattle.std.proofs.lemmas.Bool.Decides.{nat_tests}
use Rattle.std.proofs.lemmas.List.{get_or_past, reverse-append}
use Rattle.crn_stock.specs.Parts.{Parts}
use Rattle.crn_stock.specs.Stock.{joined, Draw, Order, Terms, Beginning, total_ordered, total_arrived, amount_due, total_demand, total_returned, order_quantity, orders, position, stock, due, cost_of, running, IsWithin, Standing, fresh_beginning, standing_after, standing, IsStanding, from_start, from_parts, orders_due, IsStateOf, IsOnward}
use Rattle.crn_stock.specs.Replications.{beginning_of}
use Rattle.crn_stock.specs.Inner.Steps.{HaveLeads, after_draws}
use Rattle.crn_stock.proofs.Steps.{one-le, one-le_placed, total_arrived-suc, all_near, arrived_due, coming_due, placed_due, onward_none, onward_one}
use Rattle.crn_stock.proofs.ReplicationsLemmas.{standing-append}

one_far : (u n m a : ℕ) → cond (nat_lt u n) a 0 ≡ a → n ≤ m → cond (nat_eq u m) a 0 ≡ 0
one_far u n m a all le = grind (arith, nat_tests)

-- where all orders arrive before period n, none is due from it on
none_due : (n m : ℕ) (os : List Order) → total_arrived n os ≡ total_ordered os → n ≤ m → amount_due m os ≡ 0
none_due n m [] all le = refl
none_due n m (o ∷ os) all le =
    let one : cond (nat_lt o.due n) o.quantity 0 ≤ o.quantity = one-le o.due n o.quantity in
    let most : total_arrived n os ≤ total_ordered os = one-le_placed n os in
    omega (arith, one_far o.due n m o.quantity (omega (arith, all, one, most)) le, none_due n m os (omega (arith, all, one, most)) le)

returned-append : (g h : List Draw) → total_returned (g ++ h) ≡ total_returned g + total_returned h
returned-append [] h = omega arith
returned-append (d ∷ g) h = omega (arith, returned-append g h)

demand-append : (g h : List Draw) → total_demand (g ++ h) ≡ total_demand g + total_demand h
demand-append [] h = omega arith
demand-append (d ∷ g) h = omega (arith, demand-append g h)

test_shifted : (a k ak l m z : ℕ) → ak ≡ a + k → cond (nat_lt (a + l) m) z 0 ≡ cond (nat_lt (ak + l) (k + m)) z 0
test_shifted a k ak l m z e = grind (arith, nat_tests)

-- q stands in a replication after the draws h, and goes on by the draws g. What it has on order counts as ordered before
module _ (p : Terms) (b : Beginning) (h : List Draw) (q : Parts) (w : IsWithin p b h q) where
  abbrev arrived : ℕ
  arrived = total_arrived (length h) (orders p b h)

  -- os are the orders since q, and os' all of them
  abbrev AreSince : List Order → List Order → Type 0
  AreSince os os' = ((n : ℕ) → total_arrived n os + arrived ≡ total_arrived (length h + n) os') × (total_ordered os + arrived ≡ total_ordered os')

  due_from : (n : ℕ) → amount_due n (orders_due 0 q.due) ≡ amount_due (length h + n) (orders p b h)
  due_from n =
      let at : amount_due n (orders_due 0 q.due) ≡ slice_index q.due n = ap (λ (m : ℕ). amount_due m (orders_due 0 q.due)) (omega arith) ∙ coming_due 0 n q.due in
      elim (cases_lt n 32) [
        | inl lt ↦ at ∙ w.due_is n lt
        | inr ge ↦ at ∙ get_or_past q.due n 0 (omega (arith, w.length_is, ge)) ∙ sym (none_due (length h + 32) (length h + n) (orders p b h) (all_near p b h q w) (omega (arith, ge)))
      ]

  arrived_from : (n : ℕ) → total_arrived n (orders_due 0 q.due) + arrived ≡ total_arrived (length h + n) (orders p b h)
  arrived_from zero =
      let at : total_arrived (length h + 0) (orders p b h) ≡ arrived = ap (λ (m : ℕ). total_arrived m (orders p b h)) (omega arith) in
      omega (arith, at, arrived_due 0 0 q.due (omega arith))
  arrived_from (suc n) =
      let one : total_arrived (suc n) (orders_due 0 q.due) ≡ total_arrived (n + 1) (orders_due 0 q.due) = ap (λ (m : ℕ). total_arrived m (orders_due 0 q.due)) (omega arith) in
      let later : total_arrived (length h + suc n) (orders p b h) ≡ total_arrived (length h + n + 1) (orders p b h) = ap (λ (m : ℕ). total_arrived m (orders p b h)) (omega arith) in
      omega (arith, one, later, total_arrived-suc n (orders_due 0 q.due), total_arrived-suc (length h + n) (orders p b h), due_from n, arrived_from n)

  position_by : (g : List Draw) → AreSince (orders p (beginning_of q) g) (orders p b (g ++ h)) → position p (beginning_of q) g ≡ position p b (g ++ h)
  position_by g since = omega (arith, ints, since.1, w.stock_is, returned-append g h, demand-append g h)

  orders_since : (g : List Draw) → AreSince (orders p (beginning_of q) g) (orders p b (g ++ h))
  orders_since [] = (arrived_from, omega (arith, ints, placed_due 0 q.due, w.stock_is, w.position_is))
  orders_since (d ∷ g) =
      let before = orders_since g in
      let z = order_quantity p.low p.high (position p (beginning_of q) g) in
      let z' = order_quantity p.low p.high (position p b (g ++ h)) in
      let same : z ≡ z' = ap (order_quantity p.low p.high) (position_by g before) in (
        λ n.
            let shifted : cond (nat_lt (length g + d.lead) n) z 0 ≡ cond (nat_lt (length (g ++ h) + d.lead) (length h + n)) z 0 = test_shifted (length g) (length h) (length (g ++ h)) d.lead n z (length-append g h) in
            let placed : cond (nat_lt (length (g ++ h) + d.lead) (length h + n)) z 0 ≡ cond (nat_lt (length (g ++ h) + d.lead) (length h + n)) z' 0 = ap (λ (y : ℕ). cond (nat_lt (length (g ++ h) + d.lead) (length h + n)) y 0) same in
            omega (arith, before.0 n, shifted, placed),
        omega (arith, before.1, same),
      )

  position_same : (g : List Draw) → position p (beginning_of q) g ≡ position p b (g ++ h)
  position_same g = position_by g (orders_since g)

  stock_same : (g : List Draw) → stock p (beginning_of q) g ≡ stock p b (g ++ h)
  stock_same g =
      let at : total_arrived (length (g ++ h)) (orders p b (g ++ h)) ≡ total_arrived (length h + length g) (orders p b (g ++ h)) = ap (λ (m : ℕ). total_arrived m (orders p b (g ++ h))) (omega (arith, length-append g h)) in
      omega (arith, ints, at, (orders_since g).0 (length g), w.stock_is, returned-append g h, demand-append g h)

  pub running_same : (g : List Draw) → running p (beginning_of q) g ≡ running p b (g ++ h)
  running_same [] = w.running_is
  running_same (d ∷ g) = λ i. running_same g i + cost_of p.setup p.unit p.holding p.backlog (order_quantity p.low p.high (position_same g i)) (stock_same (d ∷ g) i)

  due_same : (g : List Draw) (k : ℕ) → due p (beginning_of q) g k ≡ due p b (g ++ h) k
  due_same g k =
      let n = length g + k in
      let os = orders p (beginning_of q) g in
      let os' = orders p b (g ++ h) in
      let since = orders_since g in
      let at : amount_due (length (g ++ h) + k) os' ≡ amount_due (length h + n) os' = ap (λ (m : ℕ). amount_due m os') (omega (arith, length-append g h)) in
      let later : total_arrived (length h + (n + 1)) os' ≡ total_arrived (length h + n + 1) os' = ap (λ (m : ℕ). total_arrived m os') (omega arith) in
      omega (arith, at, later, since.0 n, since.0 (n + 1), total_arrived-suc n os, total_arrived-suc (length h + n) os')

  pub within_then : (g : List Draw) (v : Parts) → IsWithin p (beginning_of q) g v → IsWithin p b (g ++ h) v
  within_then g v s = record {
    stock_is = s.stock_is ∙ stock_same g;
    position_is = s.position_is ∙ position_same g;
    length_is = s.length_is;
    due_is = λ k lt. s.due_is k lt ∙ due_same g k;
    running_is = s.running_is ∙ running_same g;
  }

module _ (p : Terms) (n : ℕ) (x : ℤ) (c : Standing) (q : Parts) (s : IsStanding p c q) where
  -- where draws from q on stand, and where they stand from c on: in the replication that q has under way, or both alike
  abbrev StandAlike : Standing → Standing → Type 0
  StandAlike a a' = (a ≡ a') ⊎ ((g : List Draw) × (a ≡ record (from_parts q) { draws = g }) × (a' ≡ record c { draws = g ++ c.draws }))

  abbrev ended : List ℕ → Standing
  ended costs = record { costs = costs; first = 0; beginning = fresh_beginning x; draws = [] }

  by_test : (t : Bool) (d : Draw) (g : List Draw)
      → StandAlike (cond t (ended (q.costs ++ running p (beginning_of q) (d ∷ g) ∷ [])) (record (from_parts q) { draws = d ∷ g }))
      (cond t (ended (c.costs ++ running p c.beginning (d ∷ g ++ c.draws) ∷ [])) (record c { draws = d ∷ g ++ c.draws }))
  by_test true d g = inl (λ i. ended (s.costs_are i ++ running_same p c.beginning c.draws q s.within (d ∷ g) i ∷ []))
  by_test false d g = inr (d ∷ g, refl, refl)

  one_alike : (d : Draw) (g : List Draw) → StandAlike (standing_after p n x d (record (from_parts q) { draws = g })) (standing_after p n x d (record c { draws = g ++ c.draws }))
  one_alike d g =
      let same : nat_eq (q.period + length g + 1) n ≡ nat_eq (c.first + length (g ++ c.draws) + 1) n = ap (λ (m : ℕ). nat_eq m n) (omega (arith, s.period_is, length-append g c.draws)) in
      subst (λ (t : Bool). StandAlike (standing_after p n x d (record (from_parts q) { draws = g })) (cond t (ended (c.costs ++ running p c.beginning (d ∷ g ++ c.draws) ∷ [])) (record c { draws = d ∷ g ++ c.draws }))) same
      (by_test (nat_eq (q.period + length g + 1) n) d g)

  stand_alike : (g : List Draw) → StandAlike (standing p n x (from_parts q) g) (standing p n x c g)
  stand_alike [] = inr ([], refl, refl)
  stand_alike (d ∷ g) = elim (stand_alike g) [
    | inl e ↦ inl (ap (standing_after p n x d) e)
    | inr f ↦
        subst (λ (a : Standing). StandAlike (standing_after p n x d a) (standing_after p n x d (standing p n x c g))) (sym f.1)
        (subst (λ (a : Standing). StandAlike (standing_after p n x d (record (from_parts q) { draws = f.0 })) (standing_after p n x d a)) (sym f.2) (one_alike d f.0))
  ]

  standing_then : (g : List Draw) (v : Parts) → IsStanding p (standing p n x (from_parts q) g) v → IsStanding p (standing p n x c g) v
  standing_then g v t = elim (stand_alike g) [
    | inl e ↦ subst (λ (a : Standing). IsStanding p a v) e t
    | inr f ↦
        let u : IsStanding p (record (from_parts q) { draws = f.0 }) v = subst (λ (a : Standing). IsStanding p a v) f.1 t in
        subst (λ (a : Standing). IsStanding p a v) (sym f.2) (record {
          costs_are = u.costs_are ∙ s.costs_are;
          period_is = omega (arith, u.period_is, s.period_is, length-append f.0 c.draws);
          within = within_then p c.beginning c.draws q s.within f.0 v u.within;
        })
  ]

-- the draws ds led from a standing to q, and ds' lead on from it
stands_then : (p : Terms) (n : ℕ) (x : ℤ) (c : Standing) (ds ds' : List Draw) (q v : Parts) → q.periods ≡ n → q.initial ≡ x
    → IsStanding p (standing p n x c (reverse ds)) q → IsOnward p q ds' v → IsStanding p (standing p n x c (reverse (ds ++ ds'))) v
stands_then p n x c ds ds' q v en ex s on =
    let here : IsStanding p (standing p n x (from_parts q) (reverse ds')) v =
    subst (λ (m : ℕ). IsStanding p (standing p m x (from_parts q) (reverse ds')) v) en (subst (λ (y : ℤ). IsStanding p (standing p q.periods y (from_parts q) (reverse ds')) v) ex on.stands) in
    let all : standing p n x c (reverse (ds ++ ds')) ≡ standing p n x (standing p n x c (reverse ds)) (reverse ds') = ap (standing p n x c) (reverse-append ds ds') ∙ standing-append p n x c (reverse ds') (reverse ds) in
    subst (λ (a : Standing). IsStanding p a v) (sym all) (standing_then p n x (standing p n x c (reverse ds)) q s (reverse ds') v here)

pub state_then : (p : Terms) (n r : ℕ) (x : ℤ) (has_returns : Bool) (ds ds' : List Draw) (q v : Parts) → IsStateOf p n r x has_returns ds q → IsOnward p q ds' v → IsStateOf p n r x has_returns (ds ++ ds') v
state_then p n r x has_returns ds ds' q v s on = record {
  periods_are = on.periods_are ∙ s.periods_are;
  replications_are = on.replications_are ∙ s.replications_are;
  initial_is = on.initial_is ∙ s.initial_is;
  has_returns_is = on.has_returns_is ∙ s.has_returns_is;
  stands = stands_then p n x (from_start x) ds ds' q v s.periods_are s.initial_is s.stands on;
}

pub onward_then : (p : Terms) (o : Parts) (ds ds' : List Draw) (q v : Parts) → IsOnward p o ds q → IsOnward p q ds' v → IsOnward p o (ds ++ ds') v
onward_then p o ds ds' q v s on = record {
  periods_are = on.periods_are ∙ s.periods_are;
  replications_are = on.replications_are ∙ s.replications_are;
  initial_is = on.initial_is ∙ s.initial_is;
  has_returns_is = on.has_returns_is ∙ s.has_returns_is;
  stands = stands_then p o.periods o.initial (from_parts o) ds ds' q v s.periods_are s.initial_is s.stands on;
}

-- draws one after another take a state onward
pub onward_draws : (p : Terms) (g : ℕ → Draw) (n : ℕ) (q : Parts) → length q.due ≡ 32 → HaveLeads g n → IsOnward p q (joined n (λ k. g k ∷ [])) (after_draws p g n q)
onward_draws p g zero q long leads = onward_none p q long
onward_draws p g (suc n) q long leads =
    let before = onward_draws p g n q long (λ k lt. leads k (omega (arith, lt))) in
    let last = leads n (omega arith) in
    onward_then p q (joined n (λ k. g k ∷ [])) (g n ∷ []) (after_draws p g n q) (after_draws p g (suc n) q) before
    (onward_one p (g n) (after_draws p g n q) before.stands.within.length_is last.0 last.1)
