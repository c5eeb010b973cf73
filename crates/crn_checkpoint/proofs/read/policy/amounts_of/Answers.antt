use Rattle.std.proofs.Common.{◌∙◌, ◌++◌, List, ℕ, [], ap, sym, drop, take, map, get_or, length, append_assoc, arith}
use Rattle.crn_rows.proofs.Fields.{back}
use Rattle.crn_checkpoint.specs.Inner.Cells.{cell}
use Rattle.crn_checkpoint.specs.CheckpointText.{due_rows, cost_rows}
use Rattle.crn_checkpoint.proofs.Lengths.{length_due}
use Rattle.std.proofs.lemmas.List.{take_at, drop_at}
use Rattle.crn_checkpoint.proofs.Rows.{count_of_costs, costs_read}
use Rattle.crn_checkpoint.proofs.Restoring.{period_is, stock_small, due_small, running_small, costs_small, few_costs}
use Rattle.crn_checkpoint.proofs.read.policy.amounts_of.Goals as goal

pub returns : goal.returns
returns c = λ p v rest h e.
    let m = c.args.model.now in
    let n = c.args.next in
    let dues = due_rows v.period v.due in
    let dones = cost_rows 0 v.costs in
    let first = c.natural_in-dues.ensures (length dues) (omega (arith, h.can.ranges.due_length, length_due v.period v.due)) (ap (λ rows. cell rows 1 3) e) in
    let second = c.natural_in-done.ensures (length v.costs) (few_costs m n v h) (ap (λ rows. cell rows 1 4) e) in
    let amounts = c.after-amounts.ensures ∙ ap (drop 2) e ∙ append_assoc dues dones rest in
    let due_rows_are = c.prefix.ensures ∙ ap (take c.natural_in-dues.result) amounts ∙ take_at dues (dones ++ rest) c.natural_in-dues.result (sym first) in
    let same_period = c.period_at.ensures.value ∙ period_is m n v h in
    let due = c.due_of-due.ensures v.due h.can.ranges.due_length (due_small m n v h) (due_rows_are ∙ ap (λ (t : ℕ). due_rows t v.due) (sym same_period)) in
    let after_dues = c.after.ensures ∙ ap (drop c.natural_in-dues.result) amounts ∙ drop_at dues (dones ++ rest) c.natural_in-dues.result (sym first) in
    let cost_rows_are = c.prefix-2.ensures ∙ ap (take c.natural_in-done.result) after_dues ∙ take_at dones rest c.natural_in-done.result (count_of_costs 0 v.costs ∙ sym second) in
    let column = ap (map (λ (r : List (List ℕ)). get_or r 2 [])) cost_rows_are ∙ costs_read 0 v.costs in
    record {
      stock_is = back _ v.stock (stock_small m n v h) (c.integer_in.ensures v.stock (stock_small m n v h) (ap (λ rows. cell rows 1 1) e));
      due_is = due;
      running_is = c.natural_in.ensures v.running (running_small m n v h) (ap (λ rows. cell rows 1 2) e);
      costs_are = c.in_ok-costs.ensures v.costs (costs_small m n v h) column;
    }
