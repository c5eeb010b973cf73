use Rattle.std.proofs.Common.{rules}
use Rattle.crn_run.proofs.feeding.feed.Goals as goal

pub returns-then-published-total-clause-published : goal.returns-then-published-total-clause-published
returns-then-published-total-clause-published g c = search rules
