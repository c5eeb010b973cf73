use Rattle.std.proofs.Common.{◌∙◌, ◌+◌, ◌≤◌, ◌%◌, slice_index, sum, arith, refl}
use Rattle.std.proofs.lemmas.Int.{ints}
use Rattle.crn_stock.specs.Stock.{cost_of}
use Rattle.crn_lanes.specs.Inner.Lanes.{unbiased, due_at, terms_at, draw_in}
use Rattle.crn_lanes.proofs.Amounts.{order_within, cost_limit}
use Rattle.crn_lanes.proofs.Rows.{length-column}
use Rattle.crn_lanes.proofs.Periods.{period_kept, period_moved, arrived_within}
use Rattle.crn_lanes.proofs.lanes.run_one.Goals as goal

pub returns : goal.returns
returns c k lt =
    let t = c.args.period in
    let old = c.args.lanes.now in
    let x = slice_index old.stock k in
    let y = slice_index old.position k in
    let r = slice_index old.running k in
    let levels = c.args.levels.now in
    let low = slice_index levels.low k in
    let high = slice_index levels.high k in
    let a = slice_index c.turn-arrived.result k in
    let z = slice_index c.orders_of-orders.result k in
    let x' = slice_index c.changed-lanes.result k in
    let y' = slice_index c.changed-lanes-2.result k in
    let r' = slice_index c.costs_after-lanes.result k in
    let d = c.args.drawn.now in
    let f = c.args.costs.now in
    let i = c.requires.lanes k lt in
    let order = c.requires.levels.order k lt in
    let top = c.requires.levels.high k lt in
    let base = c.requires.levels.low k lt in
    let z-is = c.orders_of-orders.ensures.each k lt in
    let cost = cost_of f.setup f.unit f.holding f.backlog z (unbiased x') in
    let due' = c.turn-arrived.new.due in
    let x-low : d.demand ≤ x + a + d.returned = omega (arith, ints, i.stock_low, c.requires.period, d.demand_high) in
    let y-low : d.demand ≤ y + z + d.returned = omega (arith, ints, i.position_low, c.requires.period, d.demand_high) in
    let z-high : z ≤ 1010000 = order_within low high y z order top base z-is (omega (arith, ints, i.position_low)) in
    let a-high : a ≤ sum (due_at old k) = arrived_within (due_at old k) (t % 32) a i.length_is (omega arith) (c.turn-arrived.ensures.arrived k lt) in
    let x-high : x' ≤ 21480000 = omega (arith, ints, c.changed-lanes.ensures.each k lt, i.position_is, i.position_high, a-high, d.returned_high, c.requires.period) in
    let limit = cost_limit f.setup f.unit f.holding f.backlog z x' c.requires.costs.setup c.requires.costs.unit c.requires.costs.holding c.requires.costs.backlog z-high x-high in
    record {
      kept = λ b none at. period_kept t x y r x' y' r' a z d.returned d.demand cost low high (due_at old k) (due_at (record old { due = due' }) k) order top base
          z-is (c.changed-lanes.ensures.each k lt) (c.changed-lanes-2.ensures.each k lt) (c.costs_after-lanes.ensures.each k lt) x-low y-low
          b (length-column due' k ∙ c.turn-arrived.ensures.rows) (c.turn-arrived.ensures.sum k lt) d.demand_high d.returned_high none limit at;
      moved = λ v. period_moved t x y r x' y' r' a z d.returned d.demand cost low high (due_at old k) (due_at (record old { due = due' }) k) order top base
          z-is (c.changed-lanes.ensures.each k lt) (c.changed-lanes-2.ensures.each k lt) (c.costs_after-lanes.ensures.each k lt) x-low y-low
          (terms_at levels f k) (draw_in d) v refl refl refl refl i.position_is (c.turn-arrived.ensures.arrived k lt) (c.turn-arrived.ensures.moved k lt) refl;
    }
