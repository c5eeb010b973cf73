use Rattle.std.proofs.Common.{ℕ, List, slice_index, ap, ◌∙◌}
use Rattle.crn_stock.specs.Parts.{Parts}
use Rattle.crn_lanes.proofs.Rows.{row_more}
use Rattle.crn_lanes.proofs.Seats.{seat_is}
use Rattle.crn_lanes.proofs.load.cost_row.Goals as goal

pub loop-k-preserved : goal.loop-k-preserved
loop-k-preserved c =
    row_more _ c.loop-k.k c.loop-k.row _ c.loop-k-test.true
    (λ v e. ap (λ (l : List ℕ). slice_index l c.args.r) c.costs.ensures.value
    ∙ ap (λ (w : Parts). slice_index w.costs c.args.r) (seat_is c.args.states.now c.loop-k.k c.seat_of.result c.index-states-seat_of.result v c.seat_of.ensures.seat c.seat_of.ensures.within c.index-states-seat_of.is e))
    c.loop-k.invariant
