use Rattle.std.proofs.Common.{rules}
use Rattle.crn_scenario.proofs.faults.returns_keep.Goals as goal

pub returns : goal.returns
returns c = search rules
