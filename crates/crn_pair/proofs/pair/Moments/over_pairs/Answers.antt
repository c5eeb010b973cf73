use Rattle.std.proofs.Common.{◌-ℤ◌, ◌*ℤ◌, arith, ap, ◌∙◌, ℤ}
use Rattle.std.proofs.lemmas.Int.{ints}
use Rattle.crn_pair.proofs.Stripped.{difference_is, difference_within}
use Rattle.crn_pair.proofs.pair.Moments.over_pairs.Goals as goal

pub overflow_sub-result : goal.overflow_sub-result
overflow_sub-result c =
    let s = c.args.self in
    let w = c.requires.within in
    difference_within c.from.result s.products s.x s.y (omega (arith, ints, c.from.ensures, c.requires.few)) w.products_low w.x_low w.y_low

pub returns : goal.returns
returns c =
    let s = c.args.self in
    let w = c.requires.within in
    difference_is c.from.result s.products s.x s.y (omega (arith, ints, c.from.ensures, c.requires.few)) w.products_low w.x_low w.y_low
    ∙ ap (λ (z : ℤ). z *ℤ s.products -ℤ s.x *ℤ s.y) c.from.ensures
