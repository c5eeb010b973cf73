use Rattle.std.proofs.Common.{sym, ◌∙◌}
use Rattle.crn_checkpoint.proofs.Places.{cell_at, no_decimal}
use Rattle.crn_checkpoint.proofs.read.cells.natural_in.Goals as goal

pub returns-else-row-rows : goal.returns-else-row-rows
returns-else-row-rows c = λ n lt e. absurd (no_decimal c.args.rows.now c.args.row c.args.place n c.if-row-rows.false lt e)

pub returns-then-row-rows : goal.returns-then-row-rows
returns-then-row-rows c = λ n lt e. c.natural.ensures n lt (sym (cell_at c.args.rows.now c.args.row c.args.place c.index-rows-row.result c.if-row-rows.true c.index-rows-row.is) ∙ e)
