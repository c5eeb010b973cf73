use Rattle.std.proofs.Common.{◌∙◌, ap, length}
use Rattle.crn_checkpoint.specs.CheckpointText.{checkpoint_rows}
use Rattle.crn_stock.specs.Models.{returned_values}
use Rattle.crn_checkpoint.specs.Inner.Cells.{cell}
use Rattle.crn_checkpoint.proofs.Rows.{returned_few}
use Rattle.crn_checkpoint.proofs.read.layout.returned_count.Goals as goal

pub returns-in-Second-clause-count : goal.returns-in-Second-clause-count
unfolding checkpoint_rows
returns-in-Second-clause-count c = λ s next states h.
    let rows = h.rows_are ∙ ap (λ v. checkpoint_rows v s next states) c.in-Second.is in
    c.natural_in.ensures (length (returned_values s.model.returns)) (returned_few s h.ranges.scenario) (ap (λ rows. cell rows 4 1) rows)
