use Rattle.std.proofs.Common.{◌≡◌, ◌++◌, drop}
use Rattle.crn_proto.specs.Machine.{machine_after, machine_answers}
use Rattle.crn_trace.specs.Trace.{step_lines}
use Rattle.crn_trace.proofs.traces.put_steps.Given as goal

abbrev pub invariant-loop-who : goal.invariant-loop-who
invariant-loop-who l = record {
  spec : l.machine.spec ≡ l.fn.machine.spec;
  state : machine_after l.machine (drop l.who-index l.actors) ≡ machine_after l.fn.machine l.actors;
  lines : l.text.items ++ step_lines (drop l.who-index l.actors) (machine_answers l.machine (drop l.who-index l.actors)) ≡ l.fn.text.items ++ step_lines l.actors (machine_answers l.fn.machine l.actors);
}
