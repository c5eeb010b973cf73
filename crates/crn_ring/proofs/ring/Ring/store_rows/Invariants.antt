use Rattle.std.proofs.Common.{◌≡◌, ◌*◌}
use Rattle.crn_cipher.specs.declared.TheConstants.{BLOCK_WORDS}
use Rattle.crn_proto.specs.Chains.{ProducerReaches}
use Rattle.crn_ring.specs.Inner.Plays.{wrote_many}
use Rattle.crn_steps.specs.Seats.{producer_in, view_of}
use Rattle.crn_steps.specs.Places.{ViewBecomes}
use Rattle.crn_ring.proofs.ring.Ring.store_rows.Given as goal

abbrev pub invariant-loop-k : goal.invariant-loop-k
invariant-loop-k l = (l.seat.table_id ≡ l.initial.seat.table_id) × (l.seat.id ≡ l.initial.seat.id) × ViewBecomes l.initial.seat l.seat (wrote_many (BLOCK_WORDS * l.k) (view_of l.initial.seat))
    × ProducerReaches l.self.words.spec (producer_in l.initial.seat) (BLOCK_WORDS * l.k) (producer_in l.seat)
