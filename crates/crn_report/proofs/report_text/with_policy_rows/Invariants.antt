use Rattle.std.proofs.Common.{◌≡◌, ◌++◌, drop}
use Rattle.crn_report.specs.Report.{policy_rows_text}
use Rattle.crn_report.proofs.report_text.with_policy_rows.Given as goal

abbrev pub invariant-loop-i : goal.invariant-loop-i
invariant-loop-i l = l.sheet ++ policy_rows_text (drop l.i l.policies) (drop l.i l.figures) ≡ l.initial.sheet ++ policy_rows_text l.policies l.figures
