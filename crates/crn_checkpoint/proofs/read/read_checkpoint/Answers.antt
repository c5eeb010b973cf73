use Rattle.std.proofs.Common.{◌∙◌, sym, inl, inr}
use Rattle.crn_checkpoint.specs.declared.version.Version.TheVariants.{First, Second}
use Rattle.crn_checkpoint.proofs.Rows.{same_too, text_of_same}
use Rattle.crn_checkpoint.proofs.Judged.{handed, refuses, reading_refuses}
use Rattle.crn_checkpoint.proofs.read.read_checkpoint.Goals as goal

pub returns-in_err-cut-clause-refused : goal.returns-in_err-cut-clause-refused
returns-in_err-cut-clause-refused c = handed _ _ _ c.from_residual.ensures (reading_refuses _ c.args.scenario.now c.args.bytes.now c.in_err-cut.ensures.reads)

pub returns-in_err-judge-clause-refused : goal.returns-in_err-judge-clause-refused
returns-in_err-judge-clause-refused c =
    let cut = c.in_ok-cut.cut in
    let ring = c.in_ok-cut.ensures.ring ∙ c.ring.ensures.value in
    handed _ _ _ c.from_residual-in_err-judge.ensures
    (refuses _ cut.version cut.scenario c.args.scenario.now cut.checkpoint.next cut.checkpoint.states.items c.args.bytes.now c.in_err-judge.ensures.refused ring c.in_ok-cut.ensures.is_text)

pub returns-clause-is_text : goal.returns-clause-is_text
returns-clause-is_text c =
    let ring = c.in_ok-cut.ensures.ring ∙ c.ring.ensures.value in
    text_of_same _ _ _ _ _ _ _ c.in_ok-judge.ensures.new ring c.in_ok-judge.ensures.same c.in_ok-cut.ensures.is_text

pub returns-clause-only : goal.returns-clause-only
returns-clause-only c = λ s next states h.
    let same = c.in_ok-judge.ensures.same in
    elim h [
      | inl new ↦
          let read = c.in_ok-cut.ensures.reads Second s next states new in
          (same_too s _ _ read.1 same, read.2, read.3)
      | inr old ↦
          let read = c.in_ok-cut.ensures.reads First s next states old in
          (same_too s _ _ read.1 same, read.2, read.3)
    ]

pub returns-clause-not_old : goal.returns-clause-not_old
returns-clause-not_old c = λ s next states old.
    let read = c.in_ok-cut.ensures.reads First s next states old in
    absurd (cc (read.0, c.in_ok-judge.ensures.new))

pub returns-clause-one_spelling : goal.returns-clause-one_spelling
returns-clause-one_spelling c = λ other h. h.text_is ∙ sym (returns-clause-is_text c).text_is
