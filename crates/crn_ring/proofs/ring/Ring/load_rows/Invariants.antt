use Rattle.std.proofs.Common.{◌≡◌, ℕ, ◌*◌, List, length, drop}
use Rattle.crn_cipher.specs.declared.TheConstants.{BLOCK_WORDS}
use Rattle.crn_proto.specs.Chains.{ReaderReaches}
use Rattle.crn_cipher.specs.Following.{FollowOn}
use Rattle.crn_ring.specs.Inner.Plays.{read_many}
use Rattle.crn_steps.specs.Seats.{reader_in, view_of}
use Rattle.crn_steps.specs.Places.{ViewBecomes}
use Rattle.crn_ring.proofs.ring.Ring.load_rows.Given as goal

abbrev pub invariant-loop-k : goal.invariant-loop-k
invariant-loop-k l = (l.seat.table_id ≡ l.initial.seat.table_id) × (l.seat.id ≡ l.initial.seat.id)
    × ((ns : List ℕ) × (length ns ≡ BLOCK_WORDS * l.k) × ViewBecomes l.initial.seat l.seat (read_many ns (view_of l.initial.seat)))
    × FollowOn l.self.words.spec.id.key l.fn.n l.k l.out
    × (drop l.count l.out ≡ drop l.count l.initial.out)
    × ReaderReaches (reader_in l.initial.seat) (BLOCK_WORDS * l.k) (reader_in l.seat)
