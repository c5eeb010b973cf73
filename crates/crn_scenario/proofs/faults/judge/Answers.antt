use Rattle.std.proofs.Common.{◌≡◌, ◌≢◌, ℕ, ◌++◌, Option, Some, None, sym, ◌∙◌, subst, IfErr, OnOk, alloc_error}
use Rattle.toml.specs.View.{table_view}
use Rattle.crn_scenario.specs.declared.scenario_fault.ScenarioFault.TheVariants.{Memory}
use Rattle.crn_scenario.specs.Reading.{faults, scenario_fault_number}
use Rattle.crn_scenario.specs.Inner.Reading.{first_true, form_faults, draw_faults, policy_faults}
use Rattle.crn_scenario.proofs.FirstFault.{first_of, first_after, handed_on}
use Rattle.crn_scenario.proofs.faults.judge.Goals as goal

pub returns-in_err-judge_form-clause-fault : goal.returns-in_err-judge_form-clause-fault
returns-in_err-judge_form-clause-fault c =
    let ms = table_view c.args.table.now in
    handed_on _ _ _ c.from_residual.ensures (λ known. first_of _ (form_faults ms) (draw_faults ms ++ policy_faults ms) c.in_err-judge_form.ensures.fault)

pub returns-in_err-judge_draws-clause-fault : goal.returns-in_err-judge_draws-clause-fault
returns-in_err-judge_draws-clause-fault c =
    let ms = table_view c.args.table.now in
    handed_on _ _ _ c.from_residual-in_err-judge_draws.ensures
    (λ known. first_after (form_faults ms) (draw_faults ms ++ policy_faults ms) c.in_ok-judge_form.ensures.sound ∙ first_of _ (draw_faults ms) (policy_faults ms) c.in_err-judge_draws.ensures.fault)

last : (c : goal.After-judge_policies) → first_true (policy_faults (table_view c.args.table.now)) ≡ first_true (faults (table_view c.args.table.now))
last c =
    let ms = table_view c.args.table.now in
    sym (first_after (form_faults ms) (draw_faults ms ++ policy_faults ms) c.in_ok-judge_form.ensures.sound ∙ first_after (draw_faults ms) (policy_faults ms) c.in_ok-judge_draws.ensures.sound)

pub returns-clause-sound : goal.returns-clause-sound
returns-clause-sound c = subst (λ (first : Option ℕ). OnOk c.judge_policies.result (first ≡ None)) (last c) c.judge_policies.ensures.sound

pub returns-clause-fault : goal.returns-clause-fault
returns-clause-fault c = subst (λ (first : Option ℕ). IfErr c.judge_policies.result (λ f. f ≢ Memory alloc_error → first ≡ Some (scenario_fault_number f))) (last c) c.judge_policies.ensures.fault
