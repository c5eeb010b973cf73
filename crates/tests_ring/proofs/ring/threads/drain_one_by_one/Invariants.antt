use Rattle.std.proofs.Common.{◌≡◌, false}
use Rattle.crn_ring.specs.Calls.{IsReaderOf, reader_part}
use Rattle.tests_ring.proofs.ring.threads.drain_one_by_one.Given as goal

abbrev pub invariant-loop : goal.invariant-loop
invariant-loop g l = IsReaderOf l.ring l.reader × ((reader_part l.reader).seen_end ≡ false)
