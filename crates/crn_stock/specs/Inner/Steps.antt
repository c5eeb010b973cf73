-- What one period makes of a state's parts, which private code meets. It reads the amounts due that a state
-- keeps, where the definitions of `Stock` have sums over all orders.
use Rattle.std.specs.Prelude.{ℕ, ◌+◌, ◌-◌, cond, pos, ◌+ℤ◌, ◌-ℤ◌, List, [], ◌∷◌, ◌++◌, sum, replicate, slice_index, slice_set, drop, nat_eq, ◌≡◌, zero, suc, ◌*◌, ◌%◌, ◌≤◌, ◌<◌, Bool, false, ◌≤ℤ◌, length, ℤ}
use Rattle.crn_stock.specs.declared.limits.TheConstants.{LEAD_LIMIT, LEVEL_LIMIT, ITEM_LIMIT, PERIOD_COST_LIMIT}
use Rattle.crn_limits.specs.declared.TheConstants.{PERIOD_LIMIT, REPLICATION_LIMIT}
use Rattle.crn_stock.specs.Parts.{Parts, rotated, stock_limit}
use Rattle.crn_stock.specs.Stock.{Draw, Terms, order_quantity, cost_of, returned_by}
use Rattle.crn_cipher.specs.declared.stream.Block.{Block}
use Rattle.crn_draw.specs.Spread.{Pick}
use Rattle.crn_stock.specs.declared.terms.Drawn.{Drawn}
use Rattle.crn_stock.specs.declared.terms.DrawSource.{DrawSource}
use Rattle.crn_stock.specs.declared.terms.DrawSource.TheVariants.{Given, Words, WordsWithoutReturns}
use Rattle.crn_stock.specs.declared.period.Inventory.{Inventory}
use Rattle.crn_stock.specs.Models.{ModelParts}

-- the amounts due one period on: the first has arrived, and an order of z with lead time l, from 1 to the limit, is added
abbrev pub next_due : List ℕ → ℕ → ℕ → List ℕ
next_due due l z = slice_set (drop 1 due ++ 0 ∷ []) (l - 1) (slice_index (drop 1 due ++ 0 ∷ []) (l - 1) + z)

-- the parts after one period, the replication's end aside
unfoldable pub after_period : Terms → Draw → Parts → Parts
after_period p d v =
    let z = order_quantity p.low p.high (v.stock +ℤ pos (sum v.due)) in
    let x = v.stock +ℤ pos (slice_index v.due 0 + d.returned) -ℤ pos d.demand in
    record v { period = v.period + 1; stock = x; due = next_due v.due d.lead z; running = v.running + cost_of p.setup p.unit p.holding p.backlog z x }

-- the parts after a replication's last period: its cost is stored, and the next one begins
abbrev pub after_last_period : Parts → Parts
after_last_period v = record v { costs = v.costs ++ v.running ∷ []; period = 0; stock = v.initial; due = replicate LEAD_LIMIT 0; running = 0 }

-- the parts after one period
unfoldable pub after_draw : Terms → Draw → Parts → Parts
after_draw p d v = let w = after_period p d v in cond (nat_eq w.period w.periods) (after_last_period w) w

-- ---- Periods one after another as the code runs them, which private code meets: what decides them, what they draw, and what
-- stands between two of them.

-- the draw of a period
abbrev pub draw_in : Drawn → Draw
draw_in d = record { demand = d.demand; lead = d.lead; returned = d.returned }

-- the lead times of the first n draws are within their range
abbrev pub HaveLeads : (ℕ → Draw) → ℕ → Type 0
HaveLeads f n = (k : ℕ) → k < n → (1 ≤ (f k).lead) × ((f k).lead ≤ LEAD_LIMIT)

-- the draw of a period from the words of its block
abbrev pub drawn_from : ModelParts → Block → ℕ → Draw
drawn_from m block j = record {
  demand = Pick m.demand (slice_index block.demand j);
  lead = Pick m.lead (slice_index block.lead j);
  returned = returned_by m.returns (slice_index block.returns j);
}

-- the same where nothing is returned
abbrev pub drawn_without_returns : ModelParts → Block → ℕ → Draw
drawn_without_returns m block j = record (drawn_from m block j) { returned = 0 }

-- the draw of the period after k others
abbrev pub nth_draw : DrawSource → ℕ → Draw
nth_draw (Given d) k = draw_in d
nth_draw (Words m block) k = drawn_from m.now block.now k
nth_draw (WordsWithoutReturns m block) k = drawn_without_returns m.now block.now k

-- none of the draws returns anything
abbrev pub NoneReturned : DrawSource → Type 0
NoneReturned ds = (k : ℕ) → (nth_draw ds k).returned ≡ 0

-- ---- between two periods

-- what the code has of a replication after t periods, with returns or without, is within its ranges: the position is the
-- stock and all that is due
pub record IsInventory (has_returns : Bool) (t : ℕ) (x : Inventory) (due : List ℕ) : Type 0 where
  pub length_is : length due ≡ LEAD_LIMIT
  pub position_is : x.position ≡ x.stock +ℤ pos (sum due)
  pub stock_low : pos 0 ≤ℤ (x.stock +ℤ pos (ITEM_LIMIT * t))
  pub position_low : pos 0 ≤ℤ (x.position +ℤ pos ITEM_LIMIT)
  pub position_high : x.position ≤ℤ pos (stock_limit has_returns t)
  pub running_high : x.running ≤ t * PERIOD_COST_LIMIT

-- the parts of v at period t, with these amounts and what is due
abbrev pub with_inventory : Parts → ℕ → Inventory → List ℕ → Parts
with_inventory v t x due = record v { period = t; stock = x.stock; due = rotated due (t % LEAD_LIMIT); running = x.running }

-- the parts after n periods with the draws f 0, f 1 and so on, the replication's end aside
abbrev pub after_periods : Terms → (ℕ → Draw) → ℕ → Parts → Parts
after_periods p f zero v = v
after_periods p f (suc n) v = after_period p (f n) (after_periods p f n v)

-- the parts after n periods with these draws
abbrev pub after_draws : Terms → (ℕ → Draw) → ℕ → Parts → Parts
after_draws p f zero v = v
after_draws p f (suc n) v = after_draw p (f n) (after_draws p f n v)

-- k of some periods have run from period t on, and have brought x and the amounts due to x' and due'
pub record HasRunPeriods (p : Terms) (ds : DrawSource) (t k : ℕ) (x x' : Inventory) (due due' : List ℕ) : Type 0 where
  pub kept : (has_returns : Bool) → (has_returns ≡ false → NoneReturned ds) → IsInventory has_returns t x due → IsInventory has_returns (t + k) x' due'
  pub moved : (v : Parts) → with_inventory v (t + k) x' due' ≡ after_periods p (nth_draw ds) k (with_inventory v t x due)
  pub leads : HaveLeads (nth_draw ds) k

-- ---- how a state keeps its numbers within their ranges

-- the ranges of a state's numbers: it has t of its periods behind it in the replication under way
pub record HasNumbersInRange (periods replications : ℕ) (initial : ℤ) (has_returns : Bool) (done t : ℕ) (stock position : ℤ) (running : ℕ) : Type 0 where
  pub periods_low : 1 ≤ periods
  pub periods_high : periods ≤ PERIOD_LIMIT
  pub replications_high : replications ≤ REPLICATION_LIMIT
  pub initial_low : pos 0 ≤ℤ initial
  pub initial_high : initial ≤ℤ LEVEL_LIMIT
  pub done_high : done ≤ replications
  pub period_high : t < periods
  pub stock_low : pos 0 ≤ℤ (stock +ℤ pos (ITEM_LIMIT * t))
  pub stock_high : stock ≤ℤ position
  pub position_low : pos 0 ≤ℤ (position +ℤ pos ITEM_LIMIT)
  pub position_high : position ≤ℤ pos (stock_limit has_returns t)
  pub running_high : running ≤ t * PERIOD_COST_LIMIT

-- ---- the amounts that a state is restored from, before the state is made

-- the ranges of the amounts of a replication under way, before its period `period`
pub record HasAmounts (initial : ℤ) (has_returns : Bool) (period : ℕ) (stock : ℤ) (on_order running : ℕ) : Type 0 where
  pub stock_low : pos 0 ≤ℤ (stock +ℤ pos (ITEM_LIMIT * period))
  pub stock_high : stock ≤ℤ pos (stock_limit has_returns period)
  pub position_low : pos 0 ≤ℤ (stock +ℤ pos on_order +ℤ pos ITEM_LIMIT)
  pub position_high : (stock +ℤ pos on_order) ≤ℤ pos (stock_limit has_returns period)
  pub running_high : running ≤ period * PERIOD_COST_LIMIT
  pub fresh_stock : period ≡ 0 → stock ≡ initial
  pub fresh_due : period ≡ 0 → on_order ≡ 0
