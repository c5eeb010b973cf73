use Rattle.std.proofs.Common.{◌-◌, ◌≤◌}
use Rattle.crn_run.proofs.pausing.Pauses.spin.Given as goal

abbrev pub invariant-loop-made : goal.invariant-loop-made
invariant-loop-made l = l.made ≤ l.hints

abbrev pub decreases-loop-made : goal.decreases-loop-made
decreases-loop-made l = l.hints - l.made
