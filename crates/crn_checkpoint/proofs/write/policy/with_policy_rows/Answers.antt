use Rattle.crn_checkpoint.specs.CheckpointText as spec
use Rattle.crn_checkpoint.proofs.WrittenRows.{rows_in_turn}
use Rattle.crn_checkpoint.proofs.write.policy.with_policy_rows.Goals as goal

pub returns-clause-written : goal.returns-clause-written
returns-clause-written c =
    let p = c.args.policy.now in
    let v = c.args.state.now in
    let before = rows_in_turn (spec.policy_row p) (spec.state_row v) (spec.due_rows v.period v.due) (spec.cost_rows 0 v.costs) c.args.sheet in
    rw (c.in_ok-sheet-3.ensures, c.in_ok-sheet-2.ensures, c.in_ok-sheet.ensures, c.period-period.ensures.value, c.costs.ensures.value, before) at c.with_cost_rows.ensures
