use Rattle.std.proofs.Common.{rules}
use Rattle.crn_stock.proofs.scenario.is_new.Goals as goal

pub returns : goal.returns
returns c = search rules
