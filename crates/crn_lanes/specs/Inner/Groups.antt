-- What a group stands for: a state for each lane, between two blocks.
use Rattle.std.specs.Prelude.{ℕ, ◌-◌, ◌*◌, ◌%◌, cond, nat_lt, pos, ◌+ℤ◌, ◌≡◌, ◌≤◌, ◌<◌, List, [], All, length, Some, slice_get, slice_index, sum, vec_capacity}
use Rattle.crn_stock.specs.Parts.{Parts, AreInRange, rotated}
use Rattle.crn_stock.specs.Models.{ModelParts, has_returns}
use Rattle.crn_cipher.specs.declared.TheConstants.{STREAM_WORDS}
use Rattle.crn_stock.specs.declared.limits.TheConstants.{PERIOD_COST_LIMIT}
use Rattle.crn_lanes.specs.declared.arithmetic.TheConstants.{LANES}
use Rattle.crn_stock.specs.Stock.{OnwardAt}
use Rattle.crn_stock.specs.declared.policy.Policy.{Policy}
use Rattle.crn_sequential.specs.Runs.{StandsBefore}
use Rattle.crn_limits.specs.declared.TheConstants.{PERIOD_LIMIT}
use Rattle.crn_lanes.specs.declared.lanes.Lanes.{Lanes}
use Rattle.crn_lanes.specs.declared.group.Group.{Group}
use Rattle.crn_lanes.specs.Inner.Lanes.{column, unbiased, due_at, with_lane, IsLane}

-- the parts of a model's state with these costs, before any amount is known
abbrev pub with_costs : ModelParts → List ℕ → Parts
with_costs m costs = record {
  periods = m.periods;
  replications = m.replications;
  initial = m.initial;
  has_returns = has_returns m;
  costs = costs;
  period = 0;
  stock = pos 0;
  due = [];
  running = 0;
}

-- the state of lane k
abbrev pub lane : ModelParts → Group → ℕ → Parts
lane m g k = with_lane (with_costs m (column g.costs.items k)) g.period g.lanes k

-- a group of the model, between two blocks: the numbers of all lanes are within their ranges
pub record IsGroup (m : ModelParts) (g : Group) : Type 0 where
  pub period_high : g.period < m.periods
  pub between : g.period % STREAM_WORDS ≡ 0
  pub lanes : (k : ℕ) → k < LANES → IsLane (has_returns m) g.period g.lanes k
  pub costs : (k : ℕ) → k < LANES → All (λ c. c ≤ m.periods * PERIOD_COST_LIMIT) (column g.costs.items k)
  pub fresh_stock : g.period ≡ 0 → (k : ℕ) → k < LANES → unbiased (slice_index g.lanes.stock k) ≡ m.initial
  pub fresh_due : g.period ≡ 0 → (k : ℕ) → k < LANES → sum (due_at g.lanes k) ≡ 0
  pub room : m.replications ≤ vec_capacity g.costs

-- ---- states side by side

-- the place of the state, of n, that lane k runs: a lane beyond the last state repeats it
abbrev pub seat : ℕ → ℕ → ℕ
seat n k = cond (nat_lt k n) k (n - 1)

-- a property of what lane k has and of the state that it runs
abbrev pub OfSeat : (ℕ → Parts → Type 0) → List Parts → ℕ → Type 0
OfSeat P states k = (v : Parts) → slice_get states (seat (length states) k) ≡ Some v → P k v

-- the ranges that every state keeps
pub record IsInLimits (v : Parts) : Type 0 where
  pub range : AreInRange v
  pub periods : v.periods ≤ PERIOD_LIMIT

-- each of some states keeps its ranges
abbrev pub AreInLimits : List Parts → Type 0
AreInLimits states = (i : ℕ) (v : Parts) → slice_get states i ≡ Some v → IsInLimits v

-- lane k has the amounts of a state, those due from a place on
pub record IsLoaded (place : ℕ) (x : Lanes) (k : ℕ) (v : Parts) : Type 0 where
  pub stock_is : unbiased (slice_index x.stock k) ≡ v.stock
  pub position_is : unbiased (slice_index x.position k) ≡ v.stock +ℤ pos (sum v.due)
  pub running_is : slice_index x.running k ≡ v.running
  pub due_is : rotated (due_at x k) place ≡ v.due

-- the states that policies' states become by the blocks up to one
abbrev pub AreRun : ModelParts → List ℕ → List Policy → List Parts → ℕ → List Parts → Type 0
AreRun m key policies states upto after = (i : ℕ) (v : Parts) → slice_get after i ≡ Some v
    → StandsBefore m upto v × ((p : Policy) (w : Parts) → slice_get policies i ≡ Some p → slice_get states i ≡ Some w → OnwardAt m p key w upto v)
