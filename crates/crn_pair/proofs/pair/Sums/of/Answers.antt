use Rattle.std.proofs.Common.{◌≡◌, ◌≤◌, ◌<◌, ◌-ℤ◌, pos, unsigned_abs, length, get_or, ℤ, FitsSigned, to_z, of_z, arith, refl, ◌∙◌, subst}
use Rattle.std.specs.Int.{w128}
use Rattle.std.proofs.lemmas.Int.{ints, to_z-of_z}
use Rattle.crn_pair.specs.declared.compare.TheConstants.{COST_LIMIT}
use Rattle.crn_pair.specs.Pairs.{signed, differences}
use Rattle.crn_pair.proofs.Gathering.{gathers_more, gathers_all, cost_at, difference_at, no_difference_past, signed_at}
use Rattle.crn_pair.proofs.pair.Sums.of.Goals as goal

pub difference-d-requires-clause-a : goal.difference-d-requires-clause-a
difference-d-requires-clause-a c = cost_at c.args.a.now c.loop-i.i 0 c.requires.a c.loop-i-test.true

pub difference-d-requires-clause-b : goal.difference-d-requires-clause-b
difference-d-requires-clause-b c = cost_at c.args.b.now c.loop-i.i 0 c.requires.b (omega (arith, c.loop-i-test.true, c.requires.same_length))

pub with-costs-requires-clause-x : goal.with-costs-requires-clause-x
with-costs-requires-clause-x c =
    let fits : FitsSigned w128 c.from.result = record { sfits = c.from.type_inv } in
    let low = cost_at c.args.a.now c.loop-i.i 0 c.requires.a c.loop-i-test.true in
    omega (arith, ints, to_z-of_z w128 c.from.result fits, c.from.ensures, low)

pub with-costs-requires-clause-y : goal.with-costs-requires-clause-y
with-costs-requires-clause-y c =
    let z = c.from-in-loop-i.result in
    let fits : FitsSigned w128 z = record { sfits = c.from-in-loop-i.type_inv } in
    let low = cost_at c.args.b.now c.loop-i.i 0 c.requires.b (omega (arith, c.loop-i-test.true, c.requires.same_length)) in
    omega (arith, ints, to_z-of_z w128 z fits, c.from-in-loop-i.ensures, low)

pub loop-i-preserved : goal.loop-i-preserved
loop-i-preserved c =
    let a = c.args.a.now in
    let b = c.args.b.now in
    let i = c.loop-i.i in
    let x = pos (get_or a i 0) in
    let y = pos (get_or b i 0) in
    let d = x -ℤ y in
    let inside : i < length b = omega (arith, c.loop-i-test.true, c.requires.same_length) in
    let fits_d : FitsSigned w128 c.difference-d.result = record { sfits = c.difference-d.type_inv } in
    let fits_x : FitsSigned w128 c.from.result = record { sfits = c.from.type_inv } in
    let fits_y : FitsSigned w128 c.from-in-loop-i.result = record { sfits = c.from-in-loop-i.type_inv } in
    let is_d : to_z w128 (of_z w128 c.difference-d.result) ≡ d = to_z-of_z w128 c.difference-d.result fits_d ∙ c.difference-d.ensures.is in
    let is_x : to_z w128 (of_z w128 c.from.result) ≡ x = to_z-of_z w128 c.from.result fits_x ∙ c.from.ensures in
    let is_y : to_z w128 (of_z w128 c.from-in-loop-i.result) ≡ y = to_z-of_z w128 c.from-in-loop-i.result fits_y ∙ c.from-in-loop-i.ensures in
    let low_d : unsigned_abs d ≤ COST_LIMIT = subst (λ (z : ℤ). unsigned_abs z ≤ COST_LIMIT) c.difference-d.ensures.is c.difference-d.ensures.low in
    let at_d = difference_at a b i 0 0 c.loop-i-test.true c.requires.same_length in
    let w = c.with-differences.ensures in
    let v = c.with-costs.ensures in
    record {
      differences = gathers_more (differences a b) (differences a b) i d d c.loop-i.differences c.with-differences.result at_d at_d
          (w.x ∙ rw is_d refl) (w.y ∙ rw is_d refl) (w.products ∙ rw is_d refl) low_d low_d c.loop-i.invariant.differences;
      costs = gathers_more (signed a) (signed b) i x y c.loop-i.costs c.with-costs.result
          (signed_at a i 0 c.loop-i-test.true) (signed_at b i 0 inside)
          (v.x ∙ rw is_x refl) (v.y ∙ rw is_y refl) (v.products ∙ rw (is_x, is_y) refl)
          (cost_at a i 0 c.requires.a c.loop-i-test.true) (cost_at b i 0 c.requires.b inside) c.loop-i.invariant.costs;
    }

pub returns-clause-differences : goal.returns-clause-differences
returns-clause-differences c =
    let past = no_difference_past c.args.a.now c.args.b.now c.loop-i.i (omega (arith, c.loop-i-test.false)) in
    gathers_all (differences c.args.a.now c.args.b.now) (differences c.args.a.now c.args.b.now) c.loop-i.i c.loop-i.differences past past c.loop-i.invariant.differences
