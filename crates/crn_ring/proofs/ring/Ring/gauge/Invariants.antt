use Rattle.std.proofs.Common.{◌≡◌}
use Rattle.crn_proto.specs.Chains.{ProducerReaches}
use Rattle.crn_ring.specs.Inner.Gates.{LeastOf}
use Rattle.crn_ring.specs.Inner.Plays.{Gauged}
use Rattle.crn_steps.specs.Seats.{producer_in, view_of}
use Rattle.crn_ring.proofs.ring.Ring.gauge.Given as goal

abbrev pub invariant-loop-r : goal.invariant-loop-r
invariant-loop-r l = (l.seat.table_id ≡ l.initial.seat.table_id) × (l.seat.id ≡ l.initial.seat.id) × Gauged l.self.words.spec.size l.fn.n l.r (view_of l.initial.seat) (view_of l.seat) × ProducerReaches l.self.words.spec (producer_in l.initial.seat) l.r (producer_in l.seat) × LeastOf l.r (producer_in l.seat).gates l.least
