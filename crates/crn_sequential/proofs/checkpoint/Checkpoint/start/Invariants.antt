use Rattle.std.proofs.Common.{◌≡◌, length}
use Rattle.crn_sequential.proofs.Growing.{HoldsOfEach}
use Rattle.crn_sequential.proofs.Beginning.{Begun}
use Rattle.crn_sequential.proofs.checkpoint.Checkpoint.start.Given as goal

abbrev pub invariant-loop-policy : goal.invariant-loop-policy
invariant-loop-policy l = record {
  count : length l.states.items ≡ l._policy;
  each : HoldsOfEach (Begun l.scenario.model l.scenario.key) l.states.items;
}
