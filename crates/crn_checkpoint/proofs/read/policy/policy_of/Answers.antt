use Rattle.std.proofs.Common.{◌∙◌, ap, arith}
use Rattle.std.proofs.lemmas.Int.{ints}
use Rattle.crn_rows.proofs.Fields.{back}
use Rattle.crn_checkpoint.specs.Inner.Cells.{cell}
use Rattle.crn_checkpoint.proofs.Rows.{small_amount, same_policy}
use Rattle.crn_checkpoint.proofs.Words.{plain_utf8}
use Rattle.crn_rows.proofs.PlainFields.{name_plain}
use Rattle.crn_checkpoint.proofs.read.policy.policy_of.Goals as goal

pub returns : goal.returns
returns c = λ p rest levels name e.
    let low_small = small_amount p.low levels.low (omega (arith, ints, levels.order, levels.high)) in
    let high_small = small_amount p.high (omega (arith, ints, levels.low, levels.order)) levels.high in
    let text = c.text_in.ensures (plain_utf8 _ p.name (ap (λ rows. cell rows 0 1) e) (name_plain p.name name)) ∙ ap (λ rows. cell rows 0 1) e in
    let low = back _ p.low low_small (c.integer_in.ensures p.low low_small (ap (λ rows. cell rows 0 2) e)) in
    let high = back _ p.high high_small (c.integer_in-2.ensures p.high high_small (ap (λ rows. cell rows 0 3) e)) in
    same_policy p _ _ _ (c.from_string.ensures ∙ c.in_ok-name.ensures.ok ∙ text) low high
