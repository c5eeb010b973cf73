use Rattle.std.proofs.Common.{rules, ◌≡◌, slice_index, ap, ◌∙◌, arith, w64}
use Rattle.std.proofs.lemmas.Int.{to_z-of_z}
use Rattle.crn_stock.specs.declared.policy.Policy.{Policy}
use Rattle.crn_lanes.specs.Inner.Lanes.{unbiased}
use Rattle.crn_lanes.proofs.Rows.{row_more}
use Rattle.crn_lanes.proofs.Seats.{seat_is, seat_read, policy_read, level_low, level_order}
use Rattle.crn_lanes.proofs.load.levels_of.Goals as goal

pub loop-k-preserved : goal.loop-k-preserved
loop-k-preserved c =
    let ps = c.args.policies.now in
    let p = c.index-policies-seat_of.result in
    let in_range = policy_read ps c.seat_of.result p c.requires.ranges c.seat_of.ensures.within c.index-policies-seat_of.is in
    let is : unbiased c.biased.result ≡ p.low = c.biased.ensures ∙ to_z-of_z w64 p.low (search rules) in
    row_more _ c.loop-k.k c.loop-k.low c.biased.result c.loop-k-test.true
    (λ q e. is ∙ ap (λ (a : Policy). a.low) (seat_is ps c.loop-k.k c.seat_of.result p q c.seat_of.ensures.seat c.seat_of.ensures.within c.index-policies-seat_of.is e), level_low c.biased.result p in_range is)
    c.loop-k.invariant

pub loop-j-preserved : goal.loop-j-preserved
loop-j-preserved c =
    let ps = c.args.policies.now in
    let p = c.index-policies-seat_of-in-loop-j.result in
    let i = c.seat_of-in-loop-j.result in
    let seat = c.seat_of-in-loop-j.ensures in
    let in_range = policy_read ps i p c.requires.ranges seat.within c.index-policies-seat_of-in-loop-j.is in
    let is : unbiased c.biased-in-loop-j.result ≡ p.high = c.biased-in-loop-j.ensures ∙ to_z-of_z w64 p.high (search rules) in
    let read = seat_read ps c.loop-j.j i p seat.seat seat.within c.index-policies-seat_of-in-loop-j.is in
    let low : unbiased (slice_index c.loop-k.low c.loop-j.j) ≡ p.low = (c.loop-k.invariant.each c.loop-j.j (omega (arith, c.loop-k-test.false, c.loop-j-test.true))).0 p read in
    let order = level_order (slice_index c.loop-k.low c.loop-j.j) c.biased-in-loop-j.result p in_range low is in
    row_more _ c.loop-j.j c.loop-j.high c.biased-in-loop-j.result c.loop-j-test.true
    (λ q e. is ∙ ap (λ (a : Policy). a.high) (seat_is ps c.loop-j.j i p q seat.seat seat.within c.index-policies-seat_of-in-loop-j.is e), order.0, order.1)
    c.loop-j.invariant

pub returns-clause-levels : goal.returns-clause-levels
returns-clause-levels c = record {
  order = λ k lt. (c.loop-j.invariant.each k (omega (arith, lt, c.loop-j-test.false))).1;
  high = λ k lt. (c.loop-j.invariant.each k (omega (arith, lt, c.loop-j-test.false))).2;
  low = λ k lt. (c.loop-k.invariant.each k (omega (arith, lt, c.loop-k-test.false))).1;
}

pub returns-clause-low : goal.returns-clause-low
returns-clause-low c k p lt e = (c.loop-k.invariant.each k (omega (arith, lt, c.loop-k-test.false))).0 p e

pub returns-clause-high : goal.returns-clause-high
returns-clause-high c k p lt e = (c.loop-j.invariant.each k (omega (arith, lt, c.loop-j-test.false))).0 p e
