use Rattle.crn_draw.proofs.Rising.{are_weighted, from_weighted}
use Rattle.crn_draw.proofs.laws.without_fault.Goals as goal

pub returns : goal.returns
returns c vs ws = (are_weighted vs ws, from_weighted vs ws)
