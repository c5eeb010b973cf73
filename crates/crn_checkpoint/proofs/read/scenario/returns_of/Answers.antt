use Rattle.std.proofs.Common.{rules}
use Rattle.crn_checkpoint.proofs.read.scenario.returns_of.Goals as goal

pub returns-then-is_empty-clause-none : goal.returns-then-is_empty-clause-none
returns-then-is_empty-clause-none c = search rules

pub returns-clause-none : goal.returns-clause-none
returns-clause-none c = search rules

pub returns-clause-reads : goal.returns-clause-reads
returns-clause-reads c = search rules
