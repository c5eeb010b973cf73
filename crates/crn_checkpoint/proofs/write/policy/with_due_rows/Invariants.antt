use Rattle.std.proofs.Common.{◌≡◌, ◌+◌, ◌++◌, drop}
use Rattle.crn_rows.specs.Rows.{rows_text}
use Rattle.crn_checkpoint.specs.CheckpointText.{due_rows}
use Rattle.crn_checkpoint.proofs.write.policy.with_due_rows.Given as goal

abbrev pub invariant-loop-k : goal.invariant-loop-k
invariant-loop-k l = l.sheet ++ rows_text (due_rows (l.period + l.k) (drop l.k l.state.due)) ≡ l.initial.sheet ++ rows_text (due_rows l.period l.state.due)
