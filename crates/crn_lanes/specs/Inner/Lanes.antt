-- What lanes stand for: the parts of a state, one lane for each policy.
use Rattle.std.specs.Prelude.{ℕ, ◌+◌, ◌-◌, cond, nat_lt, pos, ◌-ℤ◌, ◌≤ℤ◌, ℤ, List, map, length, replicate, slice_index, Bool, false, ◌≡◌, ◌≤◌, ◌<◌}
use Rattle.crn_stock.specs.Parts.{Parts}
use Rattle.crn_stock.specs.Models.{has_returns}
use Rattle.crn_stock.specs.Stock.{Draw, Terms}
use Rattle.crn_stock.specs.Inner.Steps.{IsInventory, with_inventory, after_period, after_periods, HaveLeads}
use Rattle.crn_stock.specs.declared.model.Costs.{Costs}
use Rattle.crn_stock.specs.declared.limits.TheConstants.{LEAD_LIMIT, LEVEL_LIMIT}
use Rattle.crn_lanes.specs.declared.arithmetic.TheConstants.{LANES, BIAS}
use Rattle.crn_lanes.specs.declared.drawn.Drawn.{Drawn}
use Rattle.crn_lanes.specs.declared.lanes.Levels.{Levels}
use Rattle.crn_lanes.specs.declared.lanes.Lanes.{Lanes}

-- the first n numbers of a row have a property, each by its place
pub record IsRowOf (P : ℕ → ℕ → Type 0) (n : ℕ) (row : List ℕ) : Type 0 where
  pub length_is : length row ≡ LANES
  pub each : (k : ℕ) → k < n → P k (slice_index row k)

-- the first n numbers of a row are those of a function
abbrev pub IsRow : (ℕ → ℕ) → ℕ → List ℕ → Type 0
IsRow f n row = IsRowOf (λ k x. x ≡ f k) n row

-- what a review orders, of numbers with the same bias
abbrev pub order_of : ℕ → ℕ → ℕ → ℕ
order_of low high position = cond (nat_lt position low) (high - position) 0

-- the amount that a number with the bias stands for
abbrev pub unbiased : ℕ → ℤ
unbiased x = pos x -ℤ pos BIAS

-- the numbers of lane k, row after row
abbrev pub column : List (List ℕ) → ℕ → List ℕ
column rows k = map (λ row. slice_index row k) rows

-- the levels are in order and within their range
pub record AreLevels (l : Levels) : Type 0 where
  pub order : (k : ℕ) → k < LANES → slice_index l.low k ≤ slice_index l.high k
  pub high : (k : ℕ) → k < LANES → unbiased (slice_index l.high k) ≤ℤ LEVEL_LIMIT
  pub low : (k : ℕ) → k < LANES → BIAS ≤ slice_index l.low k

-- the terms of lane k
abbrev pub terms_at : Levels → Costs → ℕ → Terms
terms_at l c k = record {
  low = unbiased (slice_index l.low k);
  high = unbiased (slice_index l.high k);
  setup = c.setup;
  unit = c.unit;
  holding = c.holding;
  backlog = c.backlog;
}

-- the amounts due of lane k
abbrev pub due_at : Lanes → ℕ → List ℕ
due_at x k = column x.due k

-- what lane k has after t periods of a replication, with returns or without, is within its ranges
abbrev pub IsLane : Bool → ℕ → Lanes → ℕ → Type 0
IsLane has_returns t x k =
    IsInventory has_returns t (record { stock = unbiased (slice_index x.stock k); position = unbiased (slice_index x.position k); running = slice_index x.running k }) (due_at x k)

-- the parts of v at period t, with what lane k has
abbrev pub with_lane : Parts → ℕ → Lanes → ℕ → Parts
with_lane v t x k =
    with_inventory v t (record { stock = unbiased (slice_index x.stock k); position = unbiased (slice_index x.position k); running = slice_index x.running k }) (due_at x k)

-- lane k is before the first period of a replication with this stock
pub record IsFresh (initial : ℤ) (x : Lanes) (k : ℕ) : Type 0 where
  pub stock_is : unbiased (slice_index x.stock k) ≡ initial
  pub position_is : unbiased (slice_index x.position k) ≡ initial
  pub running_is : slice_index x.running k ≡ 0
  pub due_is : due_at x k ≡ replicate LEAD_LIMIT 0

-- the draw of a period
abbrev pub draw_in : Drawn → Draw
draw_in d = record { demand = d.demand; lead = d.lead; returned = d.returned }

-- lane k has run period t with a draw
pub record HasRunOne (l : Levels) (c : Costs) (t : ℕ) (d : Drawn) (x x' : Lanes) (k : ℕ) : Type 0 where
  pub kept : (has_returns : Bool) → (has_returns ≡ false → d.returned ≡ 0) → IsLane has_returns t x k → IsLane has_returns (t + 1) x' k
  pub moved : (v : Parts) → with_lane v (t + 1) x' k ≡ after_period (terms_at l c k) (draw_in d) (with_lane v t x k)

-- all lanes have run n periods from period t on with the draws f 0, f 1 and so on, with returns or without
pub record HaveRun (l : Levels) (c : Costs) (f : ℕ → Draw) (has_returns : Bool) (t n : ℕ) (x x' : Lanes) : Type 0 where
  pub kept : (k : ℕ) → k < LANES → IsLane has_returns (t + n) x' k
  pub moved : (k : ℕ) → k < LANES → (v : Parts) → with_lane v (t + n) x' k ≡ after_periods (terms_at l c k) f n (with_lane v t x k)
  pub leads : HaveLeads f n
