-- The amounts of a state, as they are read, and the state that they restore.
use Rattle.std.proofs.Common.{◌≡◌, ℕ, ◌*◌, ◌/◌, ◌<◌, ◌≤◌, ◌^◌, List, All, length, sum, ap, sym, ◌∙◌, arith, ℤ, pos, ◌≤ℤ◌, ◌+ℤ◌, unsigned_abs}
use Rattle.std.proofs.lemmas.Int.{ints}
use Rattle.std.proofs.Math.Nat.{div-le_of_le-mul}
use Rattle.crn_stock.specs.Parts.{Parts, restored, CanRestore, first_period}
use Rattle.crn_stock.specs.Models.{ModelParts, has_returns, blocks_per_replication}
use Rattle.crn_checkpoint.specs.Inner.Amounts.{IsRestorable}
use Rattle.crn_checkpoint.proofs.Lengths.{each_below}
use Rattle.crn_checkpoint.proofs.Rows.{limit_high, small_stock}

pub period_is : (m : ModelParts) (n : ℕ) (v : Parts) → IsRestorable m n v → first_period m n ≡ v.period
period_is m n v h = sym (ap (λ (w : Parts). w.period) h.same)

pub period_low : (m : ModelParts) (n : ℕ) (v : Parts) → IsRestorable m n v → first_period m n ≤ 1024
period_low m n v h = omega (arith, h.can.ranges.period_high, h.model.periods_high)

pub stock_small : (m : ModelParts) (n : ℕ) (v : Parts) → IsRestorable m n v → unsigned_abs v.stock < 2 ^ 63
stock_small m n v h = small_stock v.stock (first_period m n) (period_low m n v h) h.can.ranges.stock_low (omega (arith, ints, h.can.ranges.stock_high, limit_high (has_returns m) (first_period m n) (period_low m n v h)))

on_order : (x : ℤ) (t n : ℕ) → t ≤ 1024 → pos 0 ≤ℤ (x +ℤ pos (10000 * t)) → (x +ℤ pos n) ≤ℤ pos 11240000 → n ≤ 21480000
on_order x t n period low high = omega (arith, ints, period, low, high)

pub due_small : (m : ModelParts) (n : ℕ) (v : Parts) → IsRestorable m n v → All (λ a. a < 2 ^ 32) v.due
due_small m n v h = each_below v.due (2 ^ 32) (omega (arith, on_order v.stock (first_period m n) (sum v.due) (period_low m n v h) h.can.ranges.stock_low (omega (arith, ints, h.can.ranges.position_high, limit_high (has_returns m) (first_period m n) (period_low m n v h)))))

pub running_small : (m : ModelParts) (n : ℕ) (v : Parts) → IsRestorable m n v → v.running < 2 ^ 64
running_small m n v h = omega (arith, h.can.ranges.running_high, period_low m n v h)

pub costs_small : (m : ModelParts) (n : ℕ) (v : Parts) → IsRestorable m n v → All (λ k. k < 2 ^ 64) v.costs
costs_small m n v h k d inside = omega (arith, h.can.ranges.costs_high k d inside, h.model.periods_high)

few_done : (b k n r : ℕ) → k ≡ n / b → n ≤ r * b → r ≤ 256 → k < 2 ^ 64
few_done b k n r e high few =
    let below : n / b ≤ r = div-le_of_le-mul b (omega (arith, high)) in
    omega (arith, e, below, few)

pub few_costs : (m : ModelParts) (n : ℕ) (v : Parts) → IsRestorable m n v → length v.costs < 2 ^ 64
few_costs m n v h = few_done (blocks_per_replication m.periods) (length v.costs) n m.replications h.can.count h.can.number h.model.replications_high

pub same_state : (m : ModelParts) (n : ℕ) (v w : Parts) (x : ℤ) (due : List ℕ) (r : ℕ) (costs : List ℕ) → IsRestorable m n v → w ≡ restored m n x due r costs → x ≡ v.stock → due ≡ v.due → r ≡ v.running → costs ≡ v.costs → w ≡ v
same_state m n v w x due r costs h is ex ed er ec = is ∙ (λ i. restored m n (ex i) (ed i) (er i) (ec i)) ∙ sym h.same

pub can_too : (m : ModelParts) (n : ℕ) (v : Parts) (x : ℤ) (due : List ℕ) (r : ℕ) (costs : List ℕ) → IsRestorable m n v → x ≡ v.stock → due ≡ v.due → r ≡ v.running → costs ≡ v.costs → CanRestore m n x due r costs
can_too m n v x due r costs h ex ed er ec = rw (ex, ed, er, ec) h.can
