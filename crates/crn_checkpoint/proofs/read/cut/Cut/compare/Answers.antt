use Rattle.std.proofs.Common.{◌≡◌, ◌∙◌, List, ℕ, subst, sym}
use Rattle.std.proofs.lemmas.Bool.{false≢true}
use Rattle.std.proofs.lemmas.Bool.Decides.{Decides-eqb}
use Rattle.std.proofs.lemmas.Slice.Eq.{slice_eq-Decides}
use Rattle.crn_checkpoint.specs.Reading.{IsTextIn}
use Rattle.crn_checkpoint.proofs.read.cut.Cut.compare.Goals as goal

pub returns-then-eq-clause-is_text : goal.returns-then-eq-clause-is_text
returns-then-eq-clause-is_text c =
    let cut = c.args.self.now in
    let same : c.in_ok-text.text.items ≡ c.args.bytes.now = sym c.as_slice.ensures.value ∙ (slice_eq-Decides Decides-eqb _ _ _ c.eq.ensures).0 c.if-eq.true in
    subst (λ (b : List ℕ). IsTextIn cut.version cut.scenario cut.checkpoint.next cut.checkpoint.states.items b) same (c.in_ok-text.ensures.in_range cut.next)

pub returns-clause-differs : goal.returns-clause-differs
returns-clause-differs c = λ _ same.
    false≢true (sym c.if-eq.false ∙ (slice_eq-Decides Decides-eqb _ _ _ c.eq.ensures).1 (c.as_slice.ensures.value ∙ c.in_ok-text.ensures.text ∙ sym same))
