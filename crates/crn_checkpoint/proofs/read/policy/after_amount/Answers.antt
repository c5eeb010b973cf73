use Rattle.std.proofs.Common.{rules}
use Rattle.crn_checkpoint.proofs.read.policy.after_amount.Goals as goal

pub returns-then-amount-gt0 : goal.returns-then-amount-gt0
returns-then-amount-gt0 c = search rules
