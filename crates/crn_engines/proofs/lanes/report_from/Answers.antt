use Rattle.crn_engines.specs.Commands.{RefusesLanes}
use Rattle.crn_engines.proofs.Refused.{to_lanes}
use Rattle.crn_engines.proofs.Sent.{handed}
use Rattle.crn_engines.proofs.lanes.report_from.Goals as goal

pub returns-in_err-scenario-clause-refused : goal.returns-in_err-scenario-clause-refused
returns-in_err-scenario-clause-refused g c = handed _ _ (λ e. RefusesLanes e _ _) c.from_residual.ensures (to_lanes _ _ _ c.in_err-scenario.ensures.refused)
