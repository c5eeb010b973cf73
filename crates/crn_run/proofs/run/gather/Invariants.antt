use Rattle.std.proofs.Common.{◌≡◌, ◌≤◌, ◌+◌, length, vec_len, vec_capacity}
use Rattle.std.specs.Prelude.{slice_get, Some}
use Rattle.crn_sequential.proofs.Growing.{HoldsOfEach}
use Rattle.crn_run.proofs.Ending.{StateFrom, ReaderFrom}
use Rattle.crn_run.proofs.run.gather.Given as goal

abbrev pub invariant-loop-end : goal.invariant-loop-end
invariant-loop-end l = record {
  rest : HoldsOfEach (λ i e. slice_get l.initial.ends.items i ≡ Some e) l.ends.items;
  states : HoldsOfEach (StateFrom l.initial.ends.items) l.states.items;
  readers : HoldsOfEach (ReaderFrom l.initial.ends.items) l.readers.items;
  state_count : length l.states.items + length l.ends.items ≡ length l.initial.ends.items;
  reader_count : length l.readers.items + length l.ends.items ≡ length l.initial.ends.items;
  state_room : length l.initial.ends.items ≤ vec_capacity l.states;
  reader_room : length l.initial.ends.items ≤ vec_capacity l.readers;
}

abbrev pub decreases-loop-end : goal.decreases-loop-end
decreases-loop-end l = vec_len l.ends
