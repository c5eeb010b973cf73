use Rattle.std.proofs.Common.{◌≡◌, drop}
use Rattle.crn_trace.specs.Schedule as spec
use Rattle.crn_trace.proofs.schedules.are_below.Given as goal

abbrev pub invariant-loop-who : goal.invariant-loop-who
invariant-loop-who l = spec.are_below l.readers (drop l.who-index l.actors) ≡ spec.are_below l.readers l.actors
