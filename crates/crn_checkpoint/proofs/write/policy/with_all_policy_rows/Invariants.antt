use Rattle.std.proofs.Common.{◌≡◌, ◌++◌, All, drop, take}
use Rattle.crn_stock.specs.Parts.{AreInRange}
use Rattle.crn_rows.specs.Rows.{rows_text}
use Rattle.crn_checkpoint.specs.CheckpointText.{all_policy_rows}
use Rattle.crn_checkpoint.proofs.write.policy.with_all_policy_rows.Given as goal

abbrev pub invariant-loop-i : goal.invariant-loop-i
invariant-loop-i l = record {
  written : l.sheet ++ rows_text (all_policy_rows (drop l.i l.policies) (drop l.i l.states)) ≡ l.initial.sheet ++ rows_text (all_policy_rows l.policies l.states);
  ranges : All AreInRange (take l.i l.states);
}
