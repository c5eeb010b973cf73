use Rattle.std.proofs.Common.{ℕ, subst, sym}
use Rattle.std.proofs.lemmas.Result.{IfOk-weaker}
use Rattle.crn_sequential.specs.Runs.{EachAt}
use Rattle.crn_engines.proofs.simulation.report_of.Goals as goal

pub returns-clause-report : goal.returns-clause-report
returns-clause-report g c =
    let states = c.in_ok-start.start.states.items in
    let begun = subst (λ (k : ℕ). EachAt c.args.scenario.now k states) (sym c.in_ok-start.ensures.next) c.in_ok-start.ensures.at in
    IfOk-weaker c.run_and_report.result _ _ (λ text report. report begun) c.run_and_report.ensures.at
