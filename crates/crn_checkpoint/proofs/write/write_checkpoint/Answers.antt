use Rattle.std.proofs.Common.{rules}
use Rattle.crn_checkpoint.proofs.write.write_checkpoint.Goals as goal

pub write_in-requires-clause-tells : goal.write_in-requires-clause-tells
write_in-requires-clause-tells c = search rules

pub returns-clause-text : goal.returns-clause-text
returns-clause-text c = search rules

pub returns-clause-in_range : goal.returns-clause-in_range
returns-clause-in_range c = search rules
