use Rattle.std.proofs.Common.{◌≡◌, slice_index}
use Rattle.crn_lanes.specs.Inner.Lanes.{IsRowOf}
use Rattle.crn_lanes.specs.Inner.Groups.{OfSeat}
use Rattle.crn_lanes.proofs.load.due_row.Given as goal

abbrev pub invariant-loop-k : goal.invariant-loop-k
invariant-loop-k l = IsRowOf (λ k x. OfSeat (λ i v. x ≡ slice_index v.due l.j) l.states k) l.k l.row
