use Rattle.std.proofs.Common.{rules}
use Rattle.crn_checkpoint.proofs.write.rows.with_end_row.Goals as goal

pub returns : goal.returns
returns c = search rules
