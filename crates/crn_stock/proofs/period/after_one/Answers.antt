use Rattle.std.proofs.Common.{rules, ◌≡◌, ◌∙◌, ◌+◌, ◌%◌, ℕ, slice_index, ap, refl, subst, arith, to_z, of_z, w64, pos, ◌+ℤ◌, ◌-ℤ◌}
use Rattle.std.proofs.lemmas.Int.{ints, to_z-of_z}
use Rattle.crn_stock.specs.declared.period.Inventory.{Inventory}
use Rattle.crn_stock.specs.Parts.{stock_limit, rotated}
use Rattle.crn_stock.specs.Stock.{order_quantity, terms_in}
use Rattle.crn_stock.specs.Inner.Steps.{draw_in, next_due}
use Rattle.crn_stock.specs.declared.limits.TheConstants.{LEAD_LIMIT}
use Rattle.crn_stock.proofs.Steps.{limit_least, inventory_more, inventory_moved}
use Rattle.crn_stock.proofs.period.after_one.Goals as goal

pub returns-clause-kept : goal.returns-clause-kept
returns-clause-kept c = λ has_returns none i.
    let x = c.changed-stock.result in
    let y = c.changed-position.result in
    let ty = to_z-of_z w64 c.args.at.position (search rules) in
    let ux = to_z-of_z w64 x (search rules) in
    let uy = to_z-of_z w64 y (search rules) in
    let g = c.args.drawn.now.returned in
    let d = c.args.drawn.now.demand in
    let a = c.turn-arrived.result in
    let z = c.order_for-order.result.quantity in
    let at : Inventory = record { stock = to_z w64 (of_z w64 x); position = to_z w64 (of_z w64 y); running = c.args.at.running + c.cost_for.result } in
    let g-is : c.from-returned.result ≡ g = c.from-returned.ensures in
    let x-is : at.stock ≡ c.args.at.stock +ℤ pos (a + g) -ℤ pos d = omega (arith, ints, ux, c.changed-stock.ensures, g-is) in
    let y-is : at.position ≡ c.args.at.position +ℤ pos (z + g) -ℤ pos d = omega (arith, ints, uy, c.changed-position.ensures, g-is) in
    let reaches = c.order_for-order.ensures.reaches (stock_limit has_returns c.args.period) (limit_least has_returns c.args.period) (omega (arith, ints, ty, i.position_high)) in
    inventory_more has_returns c.args.period c.args.at at c.args.due.now c.turn-arrived.new.due a z g d c.cost_for.result
    i c.turn-arrived.ensures.length c.turn-arrived.ensures.sum x-is y-is refl
    c.args.drawn.now.demand_high c.args.drawn.now.returned_high none c.cost_for.ensures.cap
    (omega (arith, ints, ty, reaches)) (omega (arith, ints, ty, c.order_for-order.ensures.raises))

pub returns-clause-moved : goal.returns-clause-moved
returns-clause-moved c = λ v.
    let x = c.changed-stock.result in
    let y = c.changed-position.result in
    let ty = to_z-of_z w64 c.args.at.position (search rules) in
    let ux = to_z-of_z w64 x (search rules) in
    let g = c.args.drawn.now.returned in
    let d = draw_in c.args.drawn.now in
    let p = terms_in c.args.terms.now in
    let a = c.turn-arrived.result in
    let z = c.order_for-order.result.quantity in
    let at : Inventory = record { stock = to_z w64 (of_z w64 x); position = to_z w64 (of_z w64 y); running = c.args.at.running + c.cost_for.result } in
    let g-is : c.from-returned.result ≡ g = c.from-returned.ensures in
    let x-is : at.stock ≡ c.args.at.stock +ℤ pos (a + g) -ℤ pos d.demand = omega (arith, ints, ux, c.changed-stock.ensures, g-is) in
    let here : c.args.place ≡ c.args.period % LEAD_LIMIT = c.requires.place in
    let due = c.args.due.now in
    let arrived : a ≡ slice_index (rotated due (c.args.period % LEAD_LIMIT)) 0 = subst (λ (i : ℕ). a ≡ slice_index (rotated due i) 0) here c.turn-arrived.ensures.arrived in
    let moved : rotated c.turn-arrived.new.due ((c.args.period % LEAD_LIMIT + 1) % LEAD_LIMIT) ≡ next_due (rotated due (c.args.period % LEAD_LIMIT)) d.lead z =
    subst (λ (i : ℕ). rotated c.turn-arrived.new.due ((i + 1) % LEAD_LIMIT) ≡ next_due (rotated due i) d.lead z) here c.turn-arrived.ensures.moved in
    inventory_moved p d v c.args.period c.args.at at due c.turn-arrived.new.due z a c.cost_for.result
    c.requires.at.position_is (c.order_for-order.ensures.value ∙ ap (order_quantity p.low p.high) ty) arrived x-is moved
    c.cost_for.ensures.value refl

pub order_for-order-requires-clause-low : goal.order_for-order-requires-clause-low
order_for-order-requires-clause-low c = search rules

pub order_for-order-requires-clause-high : goal.order_for-order-requires-clause-high
order_for-order-requires-clause-high c = search rules

pub turn-arrived-requires-clause-place : goal.turn-arrived-requires-clause-place
turn-arrived-requires-clause-place c = search rules

pub turn-arrived-requires-clause-lead_low : goal.turn-arrived-requires-clause-lead_low
turn-arrived-requires-clause-lead_low c = search rules

pub turn-arrived-requires-clause-lead_high : goal.turn-arrived-requires-clause-lead_high
turn-arrived-requires-clause-lead_high c = search rules

pub turn-arrived-requires-clause-room : goal.turn-arrived-requires-clause-room
turn-arrived-requires-clause-room c = search rules

pub changed-stock-requires-clause-low : goal.changed-stock-requires-clause-low
changed-stock-requires-clause-low c = search rules

pub changed-stock-requires-clause-high : goal.changed-stock-requires-clause-high
changed-stock-requires-clause-high c = search rules

pub changed-stock-requires-clause-up : goal.changed-stock-requires-clause-up
changed-stock-requires-clause-up c = search rules

pub changed-stock-requires-clause-down : goal.changed-stock-requires-clause-down
changed-stock-requires-clause-down c = search rules

pub changed-position-requires-clause-low : goal.changed-position-requires-clause-low
changed-position-requires-clause-low c = search rules

pub changed-position-requires-clause-high : goal.changed-position-requires-clause-high
changed-position-requires-clause-high c = search rules

pub changed-position-requires-clause-up : goal.changed-position-requires-clause-up
changed-position-requires-clause-up c = search rules

pub changed-position-requires-clause-down : goal.changed-position-requires-clause-down
changed-position-requires-clause-down c = search rules

pub cost_for-requires-clause-costs : goal.cost_for-requires-clause-costs
cost_for-requires-clause-costs c = search rules

pub cost_for-requires-clause-order : goal.cost_for-requires-clause-order
cost_for-requires-clause-order c = search rules

pub cost_for-requires-clause-setup : goal.cost_for-requires-clause-setup
cost_for-requires-clause-setup c = search rules

pub cost_for-requires-clause-low : goal.cost_for-requires-clause-low
cost_for-requires-clause-low c = search rules

pub cost_for-requires-clause-high : goal.cost_for-requires-clause-high
cost_for-requires-clause-high c = search rules
