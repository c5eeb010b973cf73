use Rattle.crn_checkpoint.proofs.Places.{no_integer}
use Rattle.crn_checkpoint.proofs.read.cells.integer_in.Goals as goal

pub returns-else-row-rows : goal.returns-else-row-rows
returns-else-row-rows c = λ z lt e. absurd (no_integer c.args.rows.now c.args.row c.args.place z c.if-row-rows.false lt e)
