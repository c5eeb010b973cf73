use Rattle.std.proofs.Common.{rules}
use Rattle.crn_engines.proofs.legs.has_blocks.Goals as goal

pub returns : goal.returns
returns c = search rules
