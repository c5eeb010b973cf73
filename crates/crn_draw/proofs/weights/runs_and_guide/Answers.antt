use Rattle.std.proofs.Common.{◌≡◌, ◌<◌, ◌≤◌, ◌∙◌, List, length, sum, arith, ap, sym, subst}
use Rattle.std.proofs.lemmas.Bool.Decides.{nat_tests}
use Rattle.crn_draw.specs.declared.runs.Run.{Run}
use Rattle.crn_draw.specs.Inner.Runs.{runs_from, start_at, StartsRise}
use Rattle.crn_draw.proofs.Drawn.{starts-rise, first-start, length-runs, some-run}
use Rattle.crn_draw.proofs.weights.runs_and_guide.Goals as goal

runs-are : (c : goal.After-deref) → c.deref.result.now ≡ runs_from 0 c.args.values.now c.args.weights.now
runs-are c = c.deref.ensures.value ∙ c.in_ok-runs.ensures

same-length : (c : goal.After-deref) → length c.args.values.now ≡ length c.args.weights.now
same-length c = grind (arith, nat_tests, c.requires.fits)

pub guide_of-requires-clause-some : goal.guide_of-requires-clause-some
guide_of-requires-clause-some c =
    let values = c.args.values.now in
    let weights = c.args.weights.now in
    let some : 0 < sum weights = grind (arith, nat_tests, c.requires.fits) in
    subst (λ (l : List Run). 0 < length l) (sym (runs-are c)) (some-run 0 values weights (same-length c) some)

pub guide_of-requires-clause-few : goal.guide_of-requires-clause-few
guide_of-requires-clause-few c =
    let few : sum c.args.weights.now ≤ 65536 = grind (arith, nat_tests, c.requires.fits) in
    subst (λ (l : List Run). length l ≤ 65536) (sym (runs-are c)) (omega (arith, few, length-runs 0 c.args.values.now c.args.weights.now))

pub guide_of-requires-clause-first : goal.guide_of-requires-clause-first
guide_of-requires-clause-first c = ap (λ (l : List Run). start_at l 0) (runs-are c) ∙ first-start c.args.values.now c.args.weights.now

pub guide_of-requires-clause-rising : goal.guide_of-requires-clause-rising
guide_of-requires-clause-rising c = subst StartsRise (sym (runs-are c)) (starts-rise 0 c.args.values.now c.args.weights.now)
