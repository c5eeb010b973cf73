use Rattle.std.proofs.Common.{rules}
use Rattle.crn_engines.proofs.steps.run_to.Goals as goal

pub returns-clause-next : goal.returns-clause-next
returns-clause-next g c = search rules

pub returns-clause-of : goal.returns-clause-of
returns-clause-of g c = search rules

pub returns-clause-at : goal.returns-clause-at
returns-clause-at g c = search rules

pub returns-clause-onward : goal.returns-clause-onward
returns-clause-onward g c = search rules
