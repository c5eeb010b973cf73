-- One period of a lane, by numbers with the bias added.
use Rattle.std.proofs.Common.{◌≡◌, ℕ, ◌+◌, ◌-◌, ◌*◌, ◌%◌, ◌<◌, ◌≤◌, Bool, true, false, pos, ◌+ℤ◌, ◌-ℤ◌, ◌≤ℤ◌, List, length, slice_index, sum, ◌∙◌, sym, arith}
use Rattle.std.proofs.lemmas.Int.{ints}
use Rattle.crn_stock.specs.Parts.{Parts, rotated, stock_limit}
use Rattle.crn_stock.specs.Stock.{Draw, Terms, order_quantity, cost_of}
use Rattle.crn_stock.specs.Inner.Steps.{IsInventory, with_inventory, after_period, next_due}
use Rattle.crn_stock.specs.declared.limits.TheConstants.{LEVEL_LIMIT}
use Rattle.crn_stock.proofs.Steps.{sum-rotated, limit_least, inventory_more, inventory_moved}
use Rattle.crn_stock.proofs.Due.{length-rotated}
use Rattle.std.proofs.lemmas.List.Sums.{get_or-le-sum_by}
use Rattle.crn_lanes.specs.declared.arithmetic.TheConstants.{BIAS}
use Rattle.crn_lanes.specs.Inner.Lanes.{order_of, unbiased}
use Rattle.crn_lanes.proofs.Amounts.{order_reaches, order_raises, order_is}

-- an amount goes up by two numbers and down by one
pub changed_is : (x x' a g d : ℕ) → x' ≡ x + a + g - d → d ≤ x + a + g → unbiased x' ≡ unbiased x +ℤ pos (a + g) -ℤ pos d
changed_is x x' a g d is le = omega (arith, ints, is, le)

-- what arrives is no more than all that is due
pub arrived_within : (due : List ℕ) (i a : ℕ) → length due ≡ 32 → i < 32 → a ≡ slice_index (rotated due i) 0 → a ≤ sum due
arrived_within due i a len lt is =
    omega (arith, is, sum-rotated due i, get_or-le-sum_by (λ (y : ℕ). y) (rotated due i) 0 0 (omega (arith, length-rotated due i len lt)))

-- what stands at t, with stock x, position y and cost r
abbrev pub At : Bool → ℕ → ℕ → ℕ → ℕ → List ℕ → Type 0
At b t x y r due = IsInventory b t (record { stock = unbiased x; position = unbiased y; running = r }) due

abbrev pub With : Parts → ℕ → ℕ → ℕ → ℕ → List ℕ → Parts
With v t x y r due = with_inventory v t (record { stock = unbiased x; position = unbiased y; running = r }) due

-- the limit of stock and position is at most that with returns
pub limit_most : (b : Bool) (t : ℕ) → stock_limit b t ≤ 1000000 + 10000 * t
limit_most true t = omega arith
limit_most false t = omega arith

-- what is within its ranges without returns is so with them
pub at_weaker : (b : Bool) (t x y r : ℕ) (due : List ℕ) → At b t x y r due → At true t x y r due
at_weaker b t x y r due i = record {
  length_is = i.length_is;
  position_is = i.position_is;
  stock_low = i.stock_low;
  position_low = i.position_low;
  position_high = omega (arith, ints, i.position_high, limit_most b t);
  running_high = i.running_high;
}

-- a arrived, z were ordered by the levels, g returned and d demanded, at the cost k
module _ (t x y r x' y' r' a z g d k low high : ℕ) (due due' : List ℕ) (order : low ≤ high) (top : unbiased high ≤ℤ LEVEL_LIMIT) (base : BIAS ≤ low)
    (z-is : z ≡ order_of low high y) (x-is : x' ≡ x + a + g - d) (y-is : y' ≡ y + z + g - d) (r-is : r' ≡ r + k) (x-low : d ≤ x + a + g) (y-low : d ≤ y + z + g) where
  pub period_kept : (b : Bool) → length due' ≡ 32 → sum due' + a ≡ sum due + z → d ≤ 10000 → g ≤ 10000 → (b ≡ false → g ≡ 0) → k ≤ 200000000000 → At b t x y r due → At b (t + 1) x' y' r' due'
  period_kept b len s ld lg none lk i =
      inventory_more b t _ _ due due' a z g d k i len s (changed_is x x' a g d x-is x-low) (changed_is y y' z g d y-is y-low) r-is ld lg none lk
      (order_reaches low high y z order top base z-is (stock_limit b t) (limit_least b t) i.position_high) (order_raises low high y z order top base z-is)

  pub period_moved : (p : Terms) (q : Draw) (v : Parts) → p.low ≡ unbiased low → p.high ≡ unbiased high → q.returned ≡ g → q.demand ≡ d → unbiased y ≡ unbiased x +ℤ pos (sum due)
      → a ≡ slice_index (rotated due (t % 32)) 0 → rotated due' ((t % 32 + 1) % 32) ≡ next_due (rotated due (t % 32)) q.lead z → k ≡ cost_of p.setup p.unit p.holding p.backlog z (unbiased x')
      → With v (t + 1) x' y' r' due' ≡ after_period p q (With v t x y r due)
  period_moved p q v el eh eg ed e ea er ek =
      inventory_moved p q v t (record { stock = unbiased x; position = unbiased y; running = r }) (record { stock = unbiased x'; position = unbiased y'; running = r' }) due due' z a k e (z-is ∙ order_is low high y order ∙ (λ i. order_quantity (sym el i) (sym eh i) (unbiased y))) ea
      (changed_is x x' a g d x-is x-low ∙ (λ i. unbiased x +ℤ pos (a + sym eg i) -ℤ pos (sym ed i))) er ek r-is
