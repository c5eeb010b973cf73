use Rattle.crn_run.proofs.OneResult.{one_state, one_list}
use Rattle.crn_run.proofs.laws.one_result.Goals as goal

pub returns : goal.returns
returns c = record { state = one_state; states = one_list }
