use Rattle.std.proofs.Common.{◌∙◌, ap}
use Rattle.crn_checkpoint.specs.CheckpointText.{checkpoint_text}
use Rattle.crn_checkpoint.proofs.Rows.{same_text, handed_on}
use Rattle.crn_checkpoint.proofs.Judged.{told}
use Rattle.crn_checkpoint.proofs.read.read_cut.Goals as goal

pub returns-in_err-cut-clause-reads : goal.returns-in_err-cut-clause-reads
returns-in_err-cut-clause-reads c = λ v s next states h.
    handed_on _ _ _ c.from_residual.ensures (c.in_err-cut.ensures.reads v s next states h)

pub returns-in_err-compare-clause-reads : goal.returns-in_err-compare-clause-reads
returns-in_err-compare-clause-reads c = λ v s next states h.
    let read = c.in_ok-cut.ensures.reads v s next states h in
    let version = ap (λ w. checkpoint_text w s next states) read.0 in
    let written = same_text _ s _ next _ states _ read.1 read.2 read.3 in
    told _ _ _ c.from_residual-in_err-compare.ensures (λ is. c.in_err-compare.ensures.differs is (h.text_is ∙ version ∙ written))

pub returns-clause-reads : goal.returns-clause-reads
returns-clause-reads c = c.in_ok-cut.ensures.reads
