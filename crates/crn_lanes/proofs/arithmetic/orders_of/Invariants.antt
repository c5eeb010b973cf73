use Rattle.std.proofs.Common.{slice_index}
use Rattle.crn_lanes.specs.Inner.Lanes.{IsRow, order_of}
use Rattle.crn_lanes.proofs.arithmetic.orders_of.Given as goal

abbrev pub invariant-loop-k : goal.invariant-loop-k
invariant-loop-k l = IsRow (λ k. order_of (slice_index l.low k) (slice_index l.high k) (slice_index l.position k)) l.k l.orders
