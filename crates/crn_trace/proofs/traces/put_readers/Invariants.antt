use Rattle.std.proofs.Common.{◌≡◌, ◌++◌}
use Rattle.crn_trace.specs.Trace.{reader_lines}
use Rattle.crn_trace.proofs.traces.put_readers.Given as goal

abbrev pub invariant-loop-r : goal.invariant-loop-r
invariant-loop-r l = l.text.items ≡ l.initial.text.items ++ reader_lines l.machine l.r
