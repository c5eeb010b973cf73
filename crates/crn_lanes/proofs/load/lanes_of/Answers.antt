use Rattle.std.proofs.Common.{rules, ◌≡◌, ◌<◌, length, Some, slice_get, ◌+ℤ◌, pos, sum, refl, ap, ◌∙◌, arith, w64}
use Rattle.std.proofs.lemmas.Int.{ints, to_z-of_z}
use Rattle.std.proofs.lemmas.Option.{slice_get_read}
use Rattle.crn_stock.specs.Parts.{Parts}
use Rattle.crn_lanes.specs.Inner.Lanes.{unbiased}
use Rattle.crn_lanes.specs.Inner.Groups.{seat}
use Rattle.crn_lanes.proofs.Rows.{row_begun, row_more}
use Rattle.crn_lanes.proofs.Seats.{seat_is, stock_reaches, position_reaches}
use Rattle.crn_lanes.proofs.load.lanes_of.Goals as goal

pub loop-k-init : goal.loop-k-init
loop-k-init c = record { stock = row_begun _ _ refl; position = row_begun _ _ refl; running = row_begun _ _ refl }

pub biased-requires-clause-low : goal.biased-requires-clause-low
biased-requires-clause-low c =
    let v = c.index-states-seat_of.result in
    let limits = c.requires.limits c.seat_of.result v (slice_get_read c.args.states.now _ c.seat_of.result v refl c.seat_of.ensures.within c.index-states-seat_of.is) in
    omega (arith, ints, to_z-of_z w64 c.stock.result (search rules), c.stock.ensures, (stock_reaches v limits).0)

pub biased-requires-clause-high : goal.biased-requires-clause-high
biased-requires-clause-high c =
    let v = c.index-states-seat_of.result in
    let limits = c.requires.limits c.seat_of.result v (slice_get_read c.args.states.now _ c.seat_of.result v refl c.seat_of.ensures.within c.index-states-seat_of.is) in
    omega (arith, ints, to_z-of_z w64 c.stock.result (search rules), c.stock.ensures, (stock_reaches v limits).1)

pub biased-requires-in-loop-k-clause-low : goal.biased-requires-in-loop-k-clause-low
biased-requires-in-loop-k-clause-low c =
    let v = c.index-states-seat_of.result in
    let limits = c.requires.limits c.seat_of.result v (slice_get_read c.args.states.now _ c.seat_of.result v refl c.seat_of.ensures.within c.index-states-seat_of.is) in
    omega (arith, ints, to_z-of_z w64 c.position.result (search rules), (position_reaches v c.position.result c.position.ensures limits).0)

pub biased-requires-in-loop-k-clause-high : goal.biased-requires-in-loop-k-clause-high
biased-requires-in-loop-k-clause-high c =
    let v = c.index-states-seat_of.result in
    let limits = c.requires.limits c.seat_of.result v (slice_get_read c.args.states.now _ c.seat_of.result v refl c.seat_of.ensures.within c.index-states-seat_of.is) in
    omega (arith, ints, to_z-of_z w64 c.position.result (search rules), (position_reaches v c.position.result c.position.ensures limits).1)

pub loop-k-preserved : goal.loop-k-preserved
loop-k-preserved c =
    let xs = c.args.states.now in
    let v = c.index-states-seat_of.result in
    let k = c.loop-k.k in
    let same : (w : Parts) → slice_get xs (seat (length xs) k) ≡ Some w → v ≡ w = λ w. seat_is xs k c.seat_of.result v w c.seat_of.ensures.seat c.seat_of.ensures.within c.index-states-seat_of.is in
    let stock : unbiased c.biased.result ≡ v.stock = c.biased.ensures ∙ to_z-of_z w64 c.stock.result (search rules) ∙ c.stock.ensures in
    let position : unbiased c.biased-in-loop-k.result ≡ v.stock +ℤ pos (sum v.due) = c.biased-in-loop-k.ensures ∙ to_z-of_z w64 c.position.result (search rules) ∙ c.position.ensures in
    record {
      stock = row_more _ k c.loop-k.stock c.biased.result c.loop-k-test.true (λ w e. stock ∙ ap (λ (a : Parts). a.stock) (same w e)) c.loop-k.invariant.stock;
      position = row_more _ k c.loop-k.position c.biased-in-loop-k.result c.loop-k-test.true (λ w e. position ∙ ap (λ (a : Parts). a.stock +ℤ pos (sum a.due)) (same w e)) c.loop-k.invariant.position;
      running = row_more _ k c.loop-k.running c.running.result c.loop-k-test.true (λ w e. c.running.ensures ∙ ap (λ (a : Parts). a.running) (same w e)) c.loop-k.invariant.running;
    }

pub returns : goal.returns
returns c k lt v e =
    let at : k < c.loop-k.k = omega (arith, lt, c.loop-k-test.false) in
    record {
      stock_is = c.loop-k.invariant.stock.each k at v e;
      position_is = c.loop-k.invariant.position.each k at v e;
      running_is = c.loop-k.invariant.running.each k at v e;
      due_is = c.due_of.ensures k lt v e;
    }
