use Rattle.std.proofs.Common.{◌<ℤ◌, ◌*ℤ◌, ap, ◌∙◌, pos, int_div, ℤ, FitsSigned, arith}
use Rattle.std.proofs.lemmas.Int.{quot_is, quot_fits, ints}
use Rattle.std.specs.Int.{w128}
use Rattle.crn_pair.proofs.LowestTerms.{exact}
use Rattle.crn_pair.proofs.fraction.quotient.Goals as goal

pub returns : goal.returns
returns c =
    let d = c.from.result in
    let num = c.args.num in
    let fits : FitsSigned w128 d = record { sfits = c.from.type_inv } in
    let some : pos 0 <ℤ d = omega (arith, ints, c.from.ensures, c.requires.some) in
    ap (λ (z : ℤ). z *ℤ pos c.args.divisor) (quot_is w128 num d c.ranges.num fits (quot_fits w128 num d c.ranges.num some))
    ∙ ap (λ (z : ℤ). int_div num z *ℤ pos c.args.divisor) c.from.ensures
    ∙ exact num c.args.divisor c.requires.divides
