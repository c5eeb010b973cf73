use Rattle.std.proofs.Common.{◌≡◌, ℕ, ◌<◌, length}
use Rattle.std.specs.Prelude.{take, slice_index}
use Rattle.crn_cipher.specs.Blocks.{block_word}
use Rattle.crn_cipher.specs.declared.TheConstants.{BLOCK_WORDS}
use Rattle.crn_proto.specs.Chains.{ReaderReaches}
use Rattle.crn_ring.specs.Inner.Plays.{read_many}
use Rattle.crn_steps.specs.Seats.{reader_in, view_of}
use Rattle.crn_steps.specs.Places.{ViewBecomes}
use Rattle.crn_ring.proofs.ring.Ring.load_row.Given as goal

abbrev pub invariant-loop-i : goal.invariant-loop-i
invariant-loop-i l = (l.seat.table_id ≡ l.initial.seat.table_id) × (l.seat.id ≡ l.initial.seat.id) × (length l.words ≡ BLOCK_WORDS)
    × ViewBecomes l.initial.seat l.seat (read_many (take l.i l.words) (view_of l.initial.seat))
    × ((j : ℕ) → j < l.i → slice_index l.words j ≡ block_word l.self.words.spec.id.key l.fn.n j)
    × ReaderReaches (reader_in l.initial.seat) l.i (reader_in l.seat)
