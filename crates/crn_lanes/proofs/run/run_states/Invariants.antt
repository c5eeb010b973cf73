use Rattle.std.proofs.Common.{◌≡◌, length}
use Rattle.crn_lanes.specs.Inner.Groups.{AreRun}
use Rattle.crn_lanes.proofs.run.run_states.Given as goal

abbrev pub invariant-loop-k : goal.invariant-loop-k
invariant-loop-k l = record {
  count : length l.after.items ≡ l.k;
  run : AreRun l.model l.fn.key l.policies l.states l.upto l.after.items;
}
