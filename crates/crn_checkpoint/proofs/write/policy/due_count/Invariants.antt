use Rattle.std.proofs.Common.{◌≡◌, ◌+◌, ◌≤◌, length, drop}
use Rattle.crn_checkpoint.specs.CheckpointText.{due_rows}
use Rattle.crn_checkpoint.proofs.write.policy.due_count.Given as goal

abbrev pub invariant-loop-k : goal.invariant-loop-k
invariant-loop-k l = record {
  few : l.count ≤ l.k;
  whole : l.count + length (due_rows (l.state.period + l.k) (drop l.k l.state.due)) ≡ length (due_rows l.state.period l.state.due);
}
