use Rattle.std.proofs.Common.{slice_index, refl, ap, ◌∙◌, arith}
use Rattle.std.proofs.lemmas.Option.{slice_get_read}
use Rattle.crn_stock.specs.Parts.{Parts}
use Rattle.crn_lanes.proofs.Rows.{row_more}
use Rattle.crn_lanes.proofs.Seats.{seat_is, due_fits}
use Rattle.crn_lanes.proofs.load.due_row.Goals as goal

pub overflow_cast-row : goal.overflow_cast-row
overflow_cast-row c =
    let v = c.index-states-seat_of.result in
    let limits = c.requires.limits c.seat_of.result v (slice_get_read c.args.states.now _ c.seat_of.result v refl c.seat_of.ensures.within c.index-states-seat_of.is) in
    omega (arith, c.due.ensures, due_fits v c.args.j limits c.requires.j)

pub loop-k-preserved : goal.loop-k-preserved
loop-k-preserved c =
    row_more _ c.loop-k.k c.loop-k.row _ c.loop-k-test.true
    (λ v e. c.due.ensures
    ∙ ap (λ (w : Parts). slice_index w.due c.args.j) (seat_is c.args.states.now c.loop-k.k c.seat_of.result c.index-states-seat_of.result v c.seat_of.ensures.seat c.seat_of.ensures.within c.index-states-seat_of.is e))
    c.loop-k.invariant
