use Rattle.std.proofs.Common.{subst}
use Rattle.std.proofs.lemmas.Result.{IfOk-weaker}
use Rattle.crn_stock.specs.Models.{ScenarioParts}
use Rattle.crn_engines.specs.Commands.{ReportsLegs}
use Rattle.crn_engines.proofs.LegStates.{reads_one}
use Rattle.crn_engines.proofs.Refused.{of_each, onward_of_resume, onward_silent}
use Rattle.crn_engines.proofs.resumption.report_from.Goals as goal

pub returns-clause-made : goal.returns-clause-made
returns-clause-made g c =
    IfOk-weaker c.report_onward.result _ _ (λ text made. record {
      scenario = c.in_ok-scenario.scenario;
      bytes = made.bytes;
      read = record { scenario = c.in_ok-scenario.ensures.reads; checkpoint = made.read };
      answer = made.answer;
    }) c.report_onward.ensures.made

pub returns-clause-legs : goal.returns-clause-legs
returns-clause-legs g c =
    let s = c.in_ok-scenario.scenario in
    let read = c.in_ok-scenario.ensures.reads in
    IfOk-weaker c.report_onward.result _ _ (λ text made. record {
      input = read.input;
      read = read.read;
      bytes = made.bytes;
      read_bytes = made.read;
      report = λ t reads. subst (λ (v : ScenarioParts). ReportsLegs v made.bytes text.items) (reads_one read.input s t read.reads reads) made.legs;
    }) c.report_onward.ensures.made

pub returns-clause-refused : goal.returns-clause-refused
returns-clause-refused g c = of_each c.report_onward.result _ _ (λ e. onward_of_resume e c.in_ok-scenario.scenario _ _ _ _ c.in_ok-scenario.ensures.reads) c.report_onward.ensures.refused

pub returns-clause-silent : goal.returns-clause-silent
returns-clause-silent g c = of_each c.report_onward.result _ _ (λ e. onward_silent e c.in_ok-scenario.scenario _ _) c.report_onward.ensures.refused
