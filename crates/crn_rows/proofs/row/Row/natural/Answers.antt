use Rattle.std.proofs.lemmas.Fmt.{parse-decimal}
use Rattle.std.proofs.Common.{◌∙◌}
use Rattle.crn_rows.proofs.Fields.{decimal_utf8, same_ok, never_err}
use Rattle.crn_rows.proofs.row.Row.natural.Goals as goal

pub returns-in-Ok : goal.returns-in-Ok
returns-in-Ok c = λ n lt e.
    let text = c.text.ensures (decimal_utf8 _ n lt e) ∙ e in
    same_ok _ _ _ c.in-Ok.is (parse-decimal 64 n _ _ lt lt text c.parse.ensures.value.0)

pub returns-in-Err : goal.returns-in-Err
returns-in-Err c = λ n lt e.
    let text = c.text.ensures (decimal_utf8 _ n lt e) ∙ e in
    absurd (never_err _ _ _ c.in-Err.is (parse-decimal 64 n _ _ lt lt text c.parse.ensures.value.0))
