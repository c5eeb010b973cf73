use Rattle.std.proofs.Common.{◌≡◌, ◌++◌, drop}
use Rattle.crn_rows.specs.Rows.{rows_text}
use Rattle.crn_checkpoint.specs.CheckpointText.{weight_rows}
use Rattle.crn_checkpoint.proofs.write.scenario.with_weight_rows.Given as goal

abbrev pub invariant-loop-i : goal.invariant-loop-i
invariant-loop-i l = l.sheet ++ rows_text (weight_rows l.name (drop l.i l.values) (drop l.i l.weights)) ≡ l.initial.sheet ++ rows_text (weight_rows l.name l.values l.weights)
