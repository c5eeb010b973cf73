-- A state within its ranges is the one that its own amounts restore.
use Rattle.std.proofs.Common.{◌≡◌, ℕ, ◌+◌, ◌*◌, ◌/◌, ◌%◌, ◌<◌, ◌≤◌, List, length, get_or, refl, ap, sym, ◌∙◌, subst, arith, Bool, ℤ}
use Rattle.std.proofs.lemmas.Option.{slice_get-get_or}
use Rattle.std.proofs.lemmas.Nat.{div-mul-add, mod-mul-add}
use Rattle.crn_stock.specs.Parts.{Parts, AreInRange, restored, first_period}
use Rattle.crn_stock.specs.Models.{ModelParts, IsModel, has_returns, blocks_per_replication, total, ScenarioParts}
use Rattle.crn_sequential.specs.Runs.{StandsBefore}
use Rattle.crn_checkpoint.specs.Reading.{IsInRange}
use Rattle.crn_checkpoint.specs.Inner.Amounts.{IsRestorable, ArePoliciesOf}

-- a whole number of blocks of `b` and a part of one, taken apart
quotient : (a b t n : ℕ) → t < b → n ≡ a * b + t → n / b ≡ a
quotient a b t n lt e = rw e (div-mul-add a b t lt)

remainder : (a b t n : ℕ) → t < b → n ≡ a * b + t → n % b ≡ t
remainder a b t n lt e = rw e (mod-mul-add a b t lt)

place : (a b t p n : ℕ) → t % 4 ≡ 0 → t < p → b ≡ (p + 3) / 4 → n ≡ a * b + (t + 3) / 4 → (n / b ≡ a) × (4 * (n % b) ≡ t)
place a b t p n whole lt is e =
    let part = t / 4 in
    let inside : part < b = omega arith in
    let same : n ≡ a * b + part = omega arith in
    (quotient a b part n inside same, omega (arith, remainder a b part n inside same))

same_parts : (v : Parts) (p r t : ℕ) (x : ℤ) (b : Bool) → v.periods ≡ p → v.replications ≡ r → v.initial ≡ x → v.has_returns ≡ b → v.period ≡ t
    → v ≡ record { periods = p; replications = r; initial = x; has_returns = b; costs = v.costs; period = t; stock = v.stock; due = v.due; running = v.running }
same_parts v p r t x b ep er ex eb et = λ j. record { periods = ep j; replications = er j; initial = ex j; has_returns = eb j; costs = v.costs; period = et j; stock = v.stock; due = v.due; running = v.running }

pub restorable : (m : ModelParts) (n : ℕ) (v : Parts) → IsModel m → n ≤ total m → StandsBefore m n v → AreInRange v → IsRestorable m n v
restorable m n v model high stands ranges =
    let sizes = stands.of_model in
    let b = blocks_per_replication m.periods in
    let within : v.period < m.periods = subst (λ (p : ℕ). v.period < p) sizes.periods_are ranges.period_high in
    let next : n ≡ length v.costs * b + (v.period + 3) / 4 = sym stands.next ∙ ap (λ (p : ℕ). length v.costs * blocks_per_replication p + (v.period + 3) / 4) sizes.periods_are in
    let parts = place (length v.costs) b v.period m.periods n stands.between within refl next in
    let same : v ≡ restored m n v.stock v.due v.running v.costs = same_parts v m.periods m.replications (first_period m n) m.initial (has_returns m) sizes.periods_are sizes.replications_are sizes.initial_is sizes.has_returns_is (sym parts.1) in
    record {
      model = model;
      can = record { number = high; count = sym parts.0; ranges = subst AreInRange same ranges };
      same = same;
    }

policies_in_range : (s : ScenarioParts) (n : ℕ) (states : List Parts) → IsInRange s n states → ArePoliciesOf s.model n s.policies states
policies_in_range s n states h = record {
  count = h.states_of.count;
  levels = h.scenario.others.ranges;
  names = h.scenario.others.names;
  restorable = λ k d lt. restorable s.model n (get_or states k d) h.scenario.model h.next_high (h.states_of.stand k (get_or states k d) (slice_get-get_or states k d lt)) (h.ranges k d lt);
}

pub policies_are : (s : ScenarioParts) (n : ℕ) (states : List Parts) (m : ModelParts) (next : ℕ) → m ≡ s.model → next ≡ n → IsInRange s n states → ArePoliciesOf m next s.policies states
policies_are s n states m next em en h = rw (em, en) (policies_in_range s n states h)
