use Rattle.std.proofs.Common.{◌∙◌}
use Rattle.crn_rows.proofs.Fields.{read_signed, signed_utf8, back, same_ok, never_err}
use Rattle.crn_rows.proofs.row.Row.integer.Goals as goal

pub returns-in-Ok : goal.returns-in-Ok
returns-in-Ok c = λ z lt e.
    let text = c.text.ensures (signed_utf8 _ z lt e) ∙ e in
    back _ z lt (same_ok _ _ _ c.in-Ok.is (read_signed z _ _ lt text c.parse.ensures.value.0))

pub returns-in-Err : goal.returns-in-Err
returns-in-Err c = λ z lt e.
    let text = c.text.ensures (signed_utf8 _ z lt e) ∙ e in
    absurd (never_err _ _ _ c.in-Err.is (read_signed z _ _ lt text c.parse.ensures.value.0))
