use Rattle.std.proofs.Common.{◌-◌}
use Rattle.crn_draw.specs.Inner.Runs.{IsBracket}
use Rattle.crn_draw.proofs.runs.value_at.Given as goal

abbrev pub invariant-loop-first : goal.invariant-loop-first
invariant-loop-first l = IsBracket l.runs l.place l.place l.first l.last

abbrev pub decreases-loop-first : goal.decreases-loop-first
decreases-loop-first l = l.last - l.first
