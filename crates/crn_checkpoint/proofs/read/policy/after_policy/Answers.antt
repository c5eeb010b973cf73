use Rattle.std.proofs.Common.{◌∙◌, ◌++◌, length, ap, sym, drop, append_assoc, arith}
use Rattle.crn_checkpoint.specs.Inner.Cells.{cell}
use Rattle.crn_checkpoint.specs.CheckpointText.{due_rows, cost_rows}
use Rattle.crn_checkpoint.proofs.Lengths.{length_due}
use Rattle.std.proofs.lemmas.List.{drop_at}
use Rattle.crn_checkpoint.proofs.Rows.{count_of_costs}
use Rattle.crn_checkpoint.proofs.read.policy.after_policy.Goals as goal

pub returns : goal.returns
returns c = λ p v rest long many e.
    let dues = due_rows v.period v.due in
    let costs = cost_rows 0 v.costs in
    let first = c.natural_in-dues.ensures (length dues) (omega (arith, long, length_due v.period v.due)) (ap (λ rows. cell rows 1 3) e) in
    let second = c.natural_in-done.ensures (length v.costs) many (ap (λ rows. cell rows 1 4) e) in
    c.after-3.ensures
    ∙ ap (drop c.natural_in-done.result) (c.after-2.ensures ∙ ap (drop c.natural_in-dues.result) (c.after.ensures ∙ ap (drop 2) e ∙ append_assoc dues costs rest) ∙ drop_at dues (costs ++ rest) c.natural_in-dues.result (sym first))
    ∙ drop_at costs rest c.natural_in-done.result (count_of_costs 0 v.costs ∙ sym second)
