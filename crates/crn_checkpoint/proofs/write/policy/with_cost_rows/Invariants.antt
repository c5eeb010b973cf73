use Rattle.std.proofs.Common.{◌≡◌, ◌++◌, drop}
use Rattle.crn_rows.specs.Rows.{rows_text}
use Rattle.crn_checkpoint.specs.CheckpointText.{cost_rows}
use Rattle.crn_checkpoint.proofs.write.policy.with_cost_rows.Given as goal

abbrev pub invariant-loop-replication : goal.invariant-loop-replication
invariant-loop-replication l = l.sheet ++ rows_text (cost_rows l.replication (drop l.replication l.costs)) ≡ l.initial.sheet ++ rows_text (cost_rows 0 l.costs)
