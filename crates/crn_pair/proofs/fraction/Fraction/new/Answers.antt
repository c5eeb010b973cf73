use Rattle.std.proofs.Common.{rules, ◌≡◌, ◌*◌, ◌/◌, ◌∙◌, ℕ, ℤ, pos, ◌*ℤ◌, unsigned_abs, subst, sym, ap, to_z, of_z}
use Rattle.std.specs.Int.{IsGcd, w128}
use Rattle.std.proofs.Math.Nat.{div-mul_cancel}
use Rattle.crn_pair.specs.LowestTerms.{AreInLowestTerms}
use Rattle.crn_pair.proofs.LowestTerms.{den_some, same, lowest, positive_divisor}
use Rattle.crn_pair.proofs.fraction.Fraction.new.Goals as goal
use Prim.Native.Nat.{◌∣◌}

pub quotient-requires-clause-divides : goal.quotient-requires-clause-divides
quotient-requires-clause-divides c =
    subst (λ (m : ℕ). c.greatest_common_divisor-divisor.result ∣ m) c.unsigned_abs.ensures.value c.greatest_common_divisor-divisor.ensures.0

pub quotient-requires-clause-some : goal.quotient-requires-clause-some
quotient-requires-clause-some c = positive_divisor _ _ c.greatest_common_divisor-divisor.ensures.1 c.requires

pub nonzero_div-result : goal.nonzero_div-result
nonzero_div-result c = positive_divisor _ _ c.greatest_common_divisor-divisor.ensures.1 c.requires

pub invariant_of-result : goal.invariant_of-result
invariant_of-result c =
    let g = c.greatest_common_divisor-divisor.result in
    let q = c.quotient.result in
    let size : c.unsigned_abs.result ≡ unsigned_abs c.args.num = search rules in
    let of_num : q *ℤ pos g ≡ c.args.num = search rules in
    let of_den : c.args.den / g * g ≡ c.args.den = div-mul_cancel g c.greatest_common_divisor-divisor.ensures.1 in
    let divisor : IsGcd (unsigned_abs c.args.num) c.args.den g = subst (λ (m : ℕ). IsGcd m c.args.den g) size c.greatest_common_divisor-divisor.ensures in
    let kept : to_z w128 (of_z w128 q) ≡ q = search rules in
    record {
      some = den_some c.args.num q c.args.den (c.args.den / g) g of_num of_den c.requires;
      lowest = subst (λ (z : ℤ). AreInLowestTerms z (c.args.den / g)) (sym kept) (lowest c.args.num q c.args.den (c.args.den / g) g of_num of_den c.requires divisor);
    }

pub returns : goal.returns
returns c =
    let g = c.greatest_common_divisor-divisor.result in
    let q = c.quotient.result in
    let of_num : q *ℤ pos g ≡ c.args.num = search rules in
    let of_den : c.args.den / g * g ≡ c.args.den = div-mul_cancel g c.greatest_common_divisor-divisor.ensures.1 in
    let kept : to_z w128 (of_z w128 q) ≡ q = search rules in
    ap (λ (z : ℤ). z *ℤ pos c.args.den) kept ∙ same c.args.num q c.args.den (c.args.den / g) g of_num of_den c.requires
