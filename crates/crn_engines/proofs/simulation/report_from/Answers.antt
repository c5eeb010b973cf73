use Rattle.crn_engines.specs.Commands.{RefusesSimulation}
use Rattle.crn_engines.proofs.Refused.{of_each, run_silent, run_to_simulation, to_simulation}
use Rattle.crn_engines.proofs.Sent.{handed}
use Rattle.crn_engines.proofs.simulation.report_from.Goals as goal

pub returns-in_err-scenario-clause-refused : goal.returns-in_err-scenario-clause-refused
returns-in_err-scenario-clause-refused g c = handed _ _ (λ e. RefusesSimulation e _ _) c.from_residual.ensures (to_simulation _ _ _ c.in_err-scenario.ensures.refused)

pub returns-clause-refused : goal.returns-clause-refused
returns-clause-refused g c = of_each c.report_of.result _ _ (λ e. run_to_simulation e _ _ (record { scenario = c.in_ok-scenario.scenario; read = c.in_ok-scenario.ensures.reads })) c.report_of.ensures.refused

pub returns-clause-silent : goal.returns-clause-silent
returns-clause-silent g c = of_each c.report_of.result _ _ run_silent c.report_of.ensures.refused
