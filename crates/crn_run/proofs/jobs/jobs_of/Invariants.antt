use Rattle.std.proofs.Common.{◌≡◌, ◌+◌, length, vec_len}
use Rattle.crn_ring.specs.Calls.{AllFresh}
use Rattle.crn_sequential.proofs.Growing.{HoldsOfEach}
use Rattle.crn_run.proofs.Ending.{JobFrom}
use Rattle.crn_run.proofs.jobs.jobs_of.Given as goal

abbrev pub invariant-loop-reader : goal.invariant-loop-reader
invariant-loop-reader l = record {
  count : length l.jobs.items + length l.readers.items ≡ length l.scenario.policies;
  fresh : AllFresh l.ring l.readers.items;
  jobs : HoldsOfEach (JobFrom l.scenario l.ring l.start.states.items) l.jobs.items;
}

abbrev pub decreases-loop-reader : goal.decreases-loop-reader
decreases-loop-reader l = vec_len l.readers
