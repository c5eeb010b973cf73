use Rattle.std.proofs.Common.{◌≡◌, true, take}
use Rattle.std.specs.List.{list_all}
use Rattle.crn_trace.specs.Inner.Schedule.{is_in_line}
use Rattle.crn_trace.proofs.schedules.cut_line.Given as goal

abbrev pub invariant-loop-i : goal.invariant-loop-i
invariant-loop-i l = list_all is_in_line (take l.i l.text) ≡ true
