use Rattle.std.proofs.Common.{ℕ, List, subst}
use Rattle.std.proofs.lemmas.Result.{IfOk-weaker}
use Rattle.crn_engines.specs.Commands.{IsTraceFor}
use Rattle.crn_engines.specs.Inner.Refusals.{RefusesScheduleText}
use Rattle.crn_engines.proofs.Refused.{of_each, schedule_silent, text_of_trace}
use Rattle.crn_engines.proofs.replay.trace_from.Goals as goal

pub returns-clause-made : goal.returns-clause-made
returns-clause-made g c =
    IfOk-weaker c.trace_for.result _ _ (λ text trace. record {
      input = c.in_ok-input.input.items;
      read = c.in_ok-input.ensures.all;
      answer = subst (λ (b : List ℕ). IsTraceFor c.args.machine.spec b text.items) c.as_slice.ensures.value trace;
    }) c.trace_for.ensures.trace

pub returns-clause-refused : goal.returns-clause-refused
returns-clause-refused g c =
    let readers = c.args.machine.spec.readers in
    of_each c.trace_for.result _ _ (λ e h. text_of_trace e readers _ _ c.in_ok-input.input.items c.in_ok-input.ensures.all (subst (RefusesScheduleText readers e) c.as_slice.ensures.value h)) c.trace_for.ensures.refused

pub returns-clause-silent : goal.returns-clause-silent
returns-clause-silent g c = of_each c.trace_for.result _ _ (λ e. schedule_silent e c.args.machine.spec.readers c.as_slice.result.now) c.trace_for.ensures.refused
