use Rattle.std.proofs.Common.{ℕ, List, subst}
use Rattle.crn_engines.specs.Commands.{IsResumedReport, ReportsLegs}
use Rattle.crn_engines.specs.Inner.Refusals.{RefusesOnwardRun}
use Rattle.crn_engines.proofs.Refused.{of_each, text_of_onward}
use Rattle.crn_engines.proofs.Sent.{both_ok}
use Rattle.crn_engines.proofs.resumption.report_onward.Goals as goal

pub returns-clause-made : goal.returns-clause-made
returns-clause-made g c =
    let s = c.args.scenario.now in
    let bytes = c.in_ok-bytes.bytes.items in
    both_ok c.resumed_text.result _ _ _ (λ text report legs. record {
      bytes = bytes;
      read = c.in_ok-bytes.ensures.all;
      answer = subst (λ (b : List ℕ). IsResumedReport s b text.items) c.as_slice.ensures.value report;
      legs = subst (λ (b : List ℕ). ReportsLegs s b text.items) c.as_slice.ensures.value legs;
    }) c.resumed_text.ensures.report c.resumed_text.ensures.legs

pub returns-clause-refused : goal.returns-clause-refused
returns-clause-refused g c =
    let s = c.args.scenario.now in
    of_each c.resumed_text.result _ _ (λ e h. text_of_onward e s _ _ c.in_ok-bytes.bytes.items c.in_ok-bytes.ensures.all (subst (RefusesOnwardRun s e) c.as_slice.ensures.value h)) c.resumed_text.ensures.refused
