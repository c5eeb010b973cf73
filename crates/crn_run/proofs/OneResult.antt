-- What states become by some blocks is one list of states.
use Rattle.std.proofs.Common.{◌≡◌, ◌∙◌, ℕ, suc, ◌<◌, List, [], ◌∷◌, length, Some, slice_get, slice_index, ap₂, sym, refl, arith}
use Rattle.std.proofs.lemmas.Option.{slice_get_within}
use Rattle.crn_stock.specs.Parts.{Parts}
use Rattle.crn_stock.specs.Models.{ModelParts, ScenarioParts}
use Rattle.crn_stock.specs.Stock.{IsStanding, Standing, Terms, OnwardAt}
use Rattle.crn_stock.specs.declared.policy.Policy.{Policy}
use Rattle.crn_sequential.specs.Runs.{IsCheckpointOf, EachOnward}
use Rattle.crn_run.proofs.Ending.{item_at}

-- lists of one length with the same number at each place
same_list : (xs ys : List ℕ) (n : ℕ) → length xs ≡ n → length ys ≡ n → ((k : ℕ) → k < n → slice_index xs k ≡ slice_index ys k) → xs ≡ ys
same_list [] [] n ex ey each = refl
same_list [] (y ∷ ys) n ex ey each = absurd (omega (arith, ex, ey))
same_list (x ∷ xs) [] n ex ey each = absurd (omega (arith, ex, ey))
same_list (x ∷ xs) (y ∷ ys) n ex ey each =
    ap₂ (λ (a : ℕ) (l : List ℕ). a ∷ l) (each 0 (omega (arith, ex)))
    (same_list xs ys (length xs) refl (omega (arith, ex, ey)) (λ k lt. each (suc k) (omega (arith, ex, lt))))

same_parts : (v w : Parts) → v.periods ≡ w.periods → v.replications ≡ w.replications → v.initial ≡ w.initial → v.has_returns ≡ w.has_returns → v.costs ≡ w.costs → v.period ≡ w.period
    → v.stock ≡ w.stock → v.due ≡ w.due → v.running ≡ w.running → v ≡ w
same_parts v w ep er ei eh ec et es ed en =
    λ j. record { periods = ep j; replications = er j; initial = ei j; has_returns = eh j; costs = ec j; period = et j; stock = es j; due = ed j; running = en j }

-- amounts due that stand at one place of a list of draws
same_due : (p : Terms) (c : Standing) (v w : Parts) → IsStanding p c v → IsStanding p c w → v.due ≡ w.due
same_due p c v w hv hw = same_list v.due w.due 32 hv.within.length_is hw.within.length_is (λ k lt. hv.within.due_is k lt ∙ sym (hw.within.due_is k lt))

pub one_state : (model : ModelParts) (policy : Policy) (key : List ℕ) (n : ℕ) (q v w : Parts) → OnwardAt model policy key q n v → OnwardAt model policy key q n w → v ≡ w
one_state model policy key n q v w hv hw =
    let a = hv.onward in
    let b = hw.onward in
    same_parts v w (a.periods_are ∙ sym b.periods_are) (a.replications_are ∙ sym b.replications_are) (a.initial_is ∙ sym b.initial_is) (a.has_returns_is ∙ sym b.has_returns_is)
    (a.stands.costs_are ∙ sym b.stands.costs_are) (a.stands.period_is ∙ sym b.stands.period_is) (a.stands.within.stock_is ∙ sym b.stands.within.stock_is) (same_due _ _ v w a.stands b.stands)
    (a.stands.within.running_is ∙ sym b.stands.within.running_is)

-- lists of one length with the same states at each place
same_states : (vs ws : List Parts) → length vs ≡ length ws → ((i : ℕ) (v w : Parts) → slice_get vs i ≡ Some v → slice_get ws i ≡ Some w → v ≡ w) → vs ≡ ws
same_states [] [] el each = refl
same_states [] (w ∷ ws) el each = absurd (omega (arith, el))
same_states (v ∷ vs) [] el each = absurd (omega (arith, el))
same_states (v ∷ vs) (w ∷ ws) el each =
    ap₂ (λ (a : Parts) (l : List Parts). a ∷ l) (each 0 v w refl refl) (same_states vs ws (omega (arith, el)) (λ i. each (suc i)))

pub one_list : (s : ScenarioParts) (first n : ℕ) (start vs ws : List Parts) → IsCheckpointOf s first start → IsCheckpointOf s n vs → EachOnward s start n vs → IsCheckpointOf s n ws → EachOnward s start n ws
    → vs ≡ ws
one_list s first n start vs ws begun cv hv cw hw =
    same_states vs ws (cv.count ∙ sym cw.count)
    (λ i v w iv iw.
    let within : i < length vs = slice_get_within vs i v iv in
    let p : (p : Policy) × (slice_get s.policies i ≡ Some p) = item_at s.policies i (omega (arith, within, cv.count)) in
    let q : (q : Parts) × (slice_get start i ≡ Some q) = item_at start i (omega (arith, within, cv.count, begun.count)) in
    one_state s.model p.0 s.key n q.0 v w (hv i p.0 q.0 v p.1 q.1 iv) (hw i p.0 q.0 w p.1 q.1 iw))
