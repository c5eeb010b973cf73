use Rattle.crn_engines.specs.Commands.{RefusesLeg}
use Rattle.crn_engines.proofs.Refused.{of_each, run_to_leg, to_leg}
use Rattle.crn_engines.proofs.Sent.{handed}
use Rattle.crn_engines.proofs.legs.leg_from.Goals as goal

pub returns-in_err-scenario-clause-refused : goal.returns-in_err-scenario-clause-refused
returns-in_err-scenario-clause-refused g c = handed _ _ (λ e. RefusesLeg c.args.n e _ _) c.from_residual.ensures (to_leg _ c.args.n _ _ c.in_err-scenario.ensures.refused)

pub returns-clause-refused : goal.returns-clause-refused
returns-clause-refused g c = of_each c.leg_text.result _ _ (λ e. run_to_leg e c.in_ok-scenario.scenario c.args.n _ _ c.in_ok-scenario.ensures.reads) c.leg_text.ensures.refused
