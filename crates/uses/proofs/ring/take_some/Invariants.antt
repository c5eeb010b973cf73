use Rattle.std.proofs.Common.{◌≡◌, ◌+◌, ◌≤◌, false, length, vec_len, vec_capacity}
use Rattle.crn_ring.specs.Calls.{IsReaderOf, reader_number, reader_part, spec_of}
use Rattle.uses.specs.declared.ring.TheConstants.{BATCH}
use Rattle.uses.proofs.ring.take_some.Given as goal

abbrev pub invariant-loop : goal.invariant-loop
invariant-loop g l = record {
  reader : IsReaderOf l.ring l.reader;
  number : reader_number l.reader ≡ reader_number l.initial.reader;
  running : (reader_part l.reader).seen_end ≡ false;
  key : l.taken.key ≡ (spec_of l.ring).id.key;
  first : l.taken.first ≡ (reader_part l.initial.reader).taken;
  next : (reader_part l.reader).taken ≡ l.taken.first + vec_len l.taken.blocks;
  most : vec_len l.taken.blocks ≤ l.most;
  room : l.most ≤ vec_capacity l.taken.blocks;
  places : length l.batch ≡ BATCH;
}
