use Rattle.std.proofs.Common.{rules}
use Rattle.crn_checkpoint.proofs.write.scenario.returned_count.Goals as goal

pub returns-in-Some : goal.returns-in-Some
returns-in-Some c = search rules
