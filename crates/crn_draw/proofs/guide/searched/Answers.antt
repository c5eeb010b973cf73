use Rattle.std.proofs.Common.{rules, ℕ, slice_index, sym, subst}
use Rattle.crn_draw.specs.Inner.Runs.{IsBracket}
use Rattle.crn_draw.proofs.Guides.{bracket-holds}
use Rattle.crn_draw.proofs.guide.searched.Goals as goal

pub value_at-requires-clause-bracket : goal.value_at-requires-clause-bracket
value_at-requires-clause-bracket c =
    let bracket = c.index.result.now in
    subst (λ (place : ℕ). IsBracket c.args.runs.now place place bracket.first bracket.last) (sym c.place_at.ensures)
    (bracket-holds c.args.runs.now c.args.total (slice_index c.args.words.now c.args.k) c.args.guide.now (search rules) c.requires.guide bracket (search rules))
