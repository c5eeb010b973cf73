use Rattle.std.proofs.Common.{◌≡◌, ◌∙◌, ap, decimal}
use Rattle.std.proofs.lemmas.Bool.{false≢true}
use Rattle.std.proofs.lemmas.Fmt.{parse-decimal}
use Rattle.crn_spelling.proofs.decimal.number_of_text.Goals as goal

pub returns-then-not-spells-clause-every : goal.returns-then-not-spells-clause-every
returns-then-not-spells-clause-every c = λ n lt e.
    let read = parse-decimal 64 n _ _ lt lt e c.parse.ensures.value.0 in
    let same : n ≡ c.in-Ok.number = cc in
    absurd (false≢true (c.if-not-spells.ensures.1 (e ∙ ap decimal same)))

pub returns-else-not-spells-clause-every : goal.returns-else-not-spells-clause-every
returns-else-not-spells-clause-every c = λ n lt e. let read = parse-decimal 64 n _ _ lt lt e c.parse.ensures.value.0 in cc

pub returns-in-Err-clause-every : goal.returns-in-Err-clause-every
returns-in-Err-clause-every c = λ n lt e. let read = parse-decimal 64 n _ _ lt lt e c.parse.ensures.value.0 in cc
