use Rattle.std.proofs.Common.{rules}
use Rattle.crn_run.proofs.prepared.prepare.Goals as goal

pub returns-clause-ring : goal.returns-clause-ring
returns-clause-ring c = search rules
