use Rattle.std.proofs.Common.{rules}
use Rattle.crn_scenario.proofs.faults.top_keeps.Goals as goal

pub returns : goal.returns
returns c = search rules
