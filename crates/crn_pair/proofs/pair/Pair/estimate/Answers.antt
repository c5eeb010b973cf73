use Rattle.std.proofs.Common.{ℤ, pos, ◌*ℤ◌, ap, ◌∙◌, arith}
use Rattle.std.specs.Int.{w128}
use Rattle.std.proofs.lemmas.Int.{to_z-of_z}
use Rattle.crn_pair.proofs.Estimates.{estimated}
use Rattle.crn_pair.proofs.pair.Pair.estimate.Goals as goal

pub returns : goal.returns
returns c =
    let same = ap (λ (z : ℤ). z *ℤ pos c.new.result.den) (to_z-of_z w128 c.args.sum c.ranges.sum) in
    estimated c.args.sum c.args.parts c.new.result (omega (arith, c.if-parts-eq0.false)) (c.new.ensures ∙ same)
