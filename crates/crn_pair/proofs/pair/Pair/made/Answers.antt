use Rattle.std.proofs.Common.{rules, ◌≡◌, ℕ, pos, ◌-ℤ◌, ◌*ℤ◌, arith, refl, ap, sym, ◌∙◌, length, FitsSigned}
use Rattle.std.specs.Int.{w128}
use Rattle.std.proofs.lemmas.Int.{to_z-of_z}
use Rattle.crn_pair.specs.Pairs.{signed, differences}
use Rattle.crn_pair.proofs.Gathering.{spread_is, length-differences, length-signed}
use Rattle.crn_pair.proofs.pair.Pair.made.Goals as goal

pub returns : goal.returns
returns c =
    let a = c.args.a.now in
    let b = c.args.b.now in
    let sums = c.of-sums.result in
    let same : length b ≡ length a = search rules in
    let of_differences = length-differences a b same in
    let of_a = length-signed a in
    let of_b = length-signed b in
    let fits_x : FitsSigned w128 sums.differences.x = search rules in
    let fits_s : FitsSigned w128 c.over_pairs.result = record { sfits = c.over_pairs.type_inv } in
    let fits_p : FitsSigned w128 c.over_pairs-2.result = record { sfits = c.over_pairs-2.type_inv } in
    record {
      replications_are = refl;
      difference_is = to_z-of_z w128 sums.differences.x fits_x ∙ c.of-sums.ensures.differences.x_is;
      squares_are = to_z-of_z w128 c.over_pairs.result fits_s ∙ c.over_pairs.ensures
          ∙ ap (λ (n : ℕ). pos n *ℤ sums.differences.products -ℤ sums.differences.x *ℤ sums.differences.y) (sym of_differences)
          ∙ spread_is (differences a b) (differences a b) sums.differences refl c.of-sums.ensures.differences;
      products_are = to_z-of_z w128 c.over_pairs-2.result fits_p ∙ c.over_pairs-2.ensures
          ∙ ap (λ (n : ℕ). pos n *ℤ sums.costs.products -ℤ sums.costs.x *ℤ sums.costs.y) (sym of_a)
          ∙ spread_is (signed a) (signed b) sums.costs (omega (arith, of_a, of_b, same)) c.of-sums.ensures.costs;
    }
