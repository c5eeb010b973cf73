use Rattle.std.proofs.Common.{◌∙◌, ap}
use Rattle.crn_checkpoint.specs.CheckpointText.{checkpoint_rows}
use Rattle.crn_checkpoint.proofs.Rows.{lists_of_first, lists_of_second}
use Rattle.crn_checkpoint.proofs.read.layout.lists.Goals as goal

pub returns-in-First : goal.returns-in-First
returns-in-First c = λ s next states h.
    c.after.ensures ∙ lists_of_first s next states c.args.rows.now (h.rows_are ∙ ap (λ v. checkpoint_rows v s next states) c.in-First.is)

pub returns-in-Second : goal.returns-in-Second
returns-in-Second c = λ s next states h.
    c.after-in-Second.ensures ∙ lists_of_second s next states c.args.rows.now (h.rows_are ∙ ap (λ v. checkpoint_rows v s next states) c.in-Second.is)
