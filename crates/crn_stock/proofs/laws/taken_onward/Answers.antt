use Rattle.crn_stock.proofs.Blocks.{at_then, onward_at_then}
use Rattle.crn_stock.proofs.laws.taken_onward.Goals as goal

pub returns : goal.returns
returns c = record { at = at_then; onward = onward_at_then }
