use Rattle.std.proofs.Common.{◌≡◌, length, false}
use Rattle.crn_ring.specs.Calls.{IsReaderOf, reader_part}
use Rattle.tests_ring.proofs.ring.loops.drain.Given as goal

abbrev pub invariant-loop : goal.invariant-loop
invariant-loop g l = IsReaderOf l.ring l.reader × ((reader_part l.reader).seen_end ≡ false) × (length l.blocks ≡ 16)
