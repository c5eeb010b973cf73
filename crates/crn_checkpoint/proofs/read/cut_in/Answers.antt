use Rattle.crn_checkpoint.proofs.Rows.{rows_of_text}
use Rattle.crn_checkpoint.proofs.read.cut_in.Goals as goal

pub returns-clause-reads : goal.returns-clause-reads
returns-clause-reads c = λ v s next states h.
    c.from_rows.ensures.reads v s next states (rows_of_text v s next states c.args.bytes.now _ h c.in_ok-rows.ensures c.as_slice.ensures.value)
