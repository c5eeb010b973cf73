use Rattle.std.proofs.Common.{◌≡◌, length}
use Rattle.crn_sequential.proofs.Growing.{HoldsOfEach}
use Rattle.crn_sequential.proofs.Running.{Ran}
use Rattle.crn_sequential.proofs.plain.run_plain.Given as goal

abbrev pub invariant-loop-i : goal.invariant-loop-i
invariant-loop-i l = record {
  count : length l.states.items ≡ l.i;
  each : HoldsOfEach (Ran l.scenario l.start.states.items l.upto) l.states.items;
}
