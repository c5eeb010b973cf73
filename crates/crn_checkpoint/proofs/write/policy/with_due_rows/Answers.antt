use Rattle.std.proofs.Common.{rules, arith, ◌≡◌, slice_index}
use Rattle.crn_checkpoint.proofs.WrittenRows.{due_written}
use Rattle.crn_checkpoint.proofs.write.policy.with_due_rows.Goals as goal

pub loop-k-preserved : goal.loop-k-preserved
loop-k-preserved c =
    let due = c.args.state.now.due in
    let amount : c.due.result ≡ slice_index due c.loop-k.k = search rules in
    due_written c.args.period c.loop-k.k due c.due.result c.loop-k.sheet c.in_ok-sheet.sheet _
    (omega (arith, c.requires, c.loop-k-test.true)) amount (rw c.from.ensures at c.in_ok-sheet.ensures) c.loop-k.invariant
