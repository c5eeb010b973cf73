use Rattle.std.proofs.Common.{length}
use Rattle.crn_trace.proofs.ReadBack.{IsReadSoFar}
use Rattle.crn_trace.proofs.schedules.read_lines.Given as goal

abbrev pub invariant-loop-rest : goal.invariant-loop-rest
invariant-loop-rest l = IsReadSoFar l.bytes l.actors.items l.rest

abbrev pub decreases-loop-rest : goal.decreases-loop-rest
decreases-loop-rest l = length l.rest
