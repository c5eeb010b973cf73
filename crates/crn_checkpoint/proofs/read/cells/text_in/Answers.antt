use Rattle.std.proofs.Common.{◌∙◌, ℕ, List, subst, sym, IsUtf8}
use Rattle.crn_checkpoint.proofs.Places.{cell_at}
use Rattle.crn_checkpoint.proofs.read.cells.text_in.Goals as goal

pub returns-then-row-rows : goal.returns-then-row-rows
returns-then-row-rows c = λ text.
    let here = cell_at c.args.rows.now c.args.row c.args.place c.index-rows-row.result c.if-row-rows.true c.index-rows-row.is in
    c.text.ensures (subst (λ (bytes : List ℕ). IsUtf8 bytes) here text) ∙ sym here
