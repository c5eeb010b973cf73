use Rattle.std.proofs.Common.{◌∙◌}
use Rattle.crn_rows.proofs.Fields.{back}
use Rattle.crn_checkpoint.proofs.Restoring.{stock_small, same_state, can_too}
use Rattle.crn_checkpoint.proofs.Rows.{handed_on, unrestored_memory}
use Rattle.crn_checkpoint.proofs.read.policy.state_of.Goals as goal

pub returns-clause-reads : goal.returns-clause-reads
returns-clause-reads c = λ p v rest h e.
    let read = c.in_ok-a.ensures p v rest h e in
    let costs = c.as_slice-costs.ensures.value ∙ read.costs_are in
    same_state c.args.model.now c.args.next v _ _ _ _ _ h c.in_ok-restore.ensures.restored (back _ v.stock (stock_small _ _ v h) read.stock_is) read.due_is read.running_is costs

pub returns-in_err-restore-clause-reads : goal.returns-in_err-restore-clause-reads
returns-in_err-restore-clause-reads c = λ p v rest h e.
    let read = c.in_ok-a.ensures p v rest h e in
    let costs = c.as_slice-costs.ensures.value ∙ read.costs_are in
    handed_on _ _ _ c.from_residual-in_err-restore.ensures (unrestored_memory _ (λ other. c.in_err-restore.ensures.refused other (can_too c.args.model.now c.args.next v _ _ _ _ h (back _ v.stock (stock_small _ _ v h) read.stock_is) read.due_is read.running_is costs)))
