use Rattle.std.proofs.Common.{rules, ◌≡◌, ◌++◌, ◌∷◌, ℕ, List, [], get_or, sym, ◌∙◌}
use Rattle.std.proofs.lemmas.List.{take_more, take_all}
use Rattle.crn_checkpoint.proofs.Places.{in_column, same_length}
use Rattle.crn_checkpoint.proofs.read.cells.column.Goals as goal

pub loop-row-preserved : goal.loop-row-preserved
loop-row-preserved c = λ xs small e.
    let i = c.loop-row.row-index in
    let at = in_column (λ (r : List (List ℕ)). get_or r c.args.place []) c.args.rows.now xs i c.row-item.result e c.loop-row-test.true c.row-item.is in
    let same : c.natural.result ≡ get_or xs i 0 = c.natural.ensures (get_or xs i 0) (small i 0 at.within) at.spells in
    c.in_ok-push.ensures.items ∙ (λ j. c.loop-row.invariant xs small e j ++ same j ∷ []) ∙ sym (take_more xs i 0 at.within)

pub returns : goal.returns
returns c = λ xs small e.
    let count = same_length (λ (r : List (List ℕ)). get_or r c.args.place []) c.args.rows.now xs e in
    c.loop-row.invariant xs small e ∙ take_all c.loop-row.row-index xs (rw (← count) c.loop-row-test.false)

pub loop-row-init : goal.loop-row-init
loop-row-init c = search rules
