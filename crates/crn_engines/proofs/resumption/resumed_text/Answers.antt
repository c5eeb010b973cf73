use Rattle.std.proofs.lemmas.Result.{IfOk-weaker}
use Rattle.crn_engines.proofs.Refused.{of_each, run_onward}
use Rattle.crn_engines.proofs.LegStates.{each_at_read}
use Rattle.crn_engines.proofs.resumption.resumed_text.Goals as goal

pub returns-clause-legs : goal.returns-clause-legs
returns-clause-legs g c =
    let start = c.in_ok-start.start in
    let at = each_at_read c.args.scenario.now start.next start.states.items c.args.bytes.now c.in_ok-start.ensures.only in
    IfOk-weaker c.run_and_report.result _ _ (λ text report s' n same leg. report (at s' n leg)) c.run_and_report.ensures.at

pub returns-clause-refused : goal.returns-clause-refused
returns-clause-refused g c =
    let start = c.in_ok-start.start in
    of_each c.run_and_report.result _ _ (λ e. run_onward e c.args.scenario.now start.next start.states.items c.args.bytes.now c.in_ok-start.ensures.is_text) c.run_and_report.ensures.refused
