use Rattle.std.proofs.Common.{◌≡◌, ◌≤◌, length}
use Rattle.std.specs.Prelude.{vec_capacity}
use Rattle.crn_steps.specs.Holds.{opened}
use Rattle.crn_ring.specs.Calls.{AllFresh}
use Rattle.crn_steps.specs.Seats.{view_of}
use Rattle.crn_ring.proofs.ring.Ring.cut_all.Given as goal

abbrev pub invariant-loop-r : goal.invariant-loop-r
invariant-loop-r l = (l.seat.table_id ≡ l.self.words.table.shared.table_id) × (view_of l.seat ≡ opened l.self.words.spec l.r)
    × (length l.readers.items ≡ l.r) × (l.self.words.spec.readers ≤ vec_capacity l.readers) × AllFresh l.self l.readers.items
