use Rattle.std.proofs.Common.{◌%◌, subst, ℕ}
use Rattle.std.proofs.lemmas.Nat.Gcd.{IsGcd-from_mod}
use Rattle.std.specs.Int.{IsGcd}
use Rattle.crn_pair.proofs.common_divisor.greatest_common_divisor.Goals as goal

pub returns : goal.returns
returns c =
    let g = c.of_words.result in
    IsGcd-from_mod c.args.a c.args.b g (subst (λ (m : ℕ). IsGcd c.args.b (c.args.a % m) g) c.from.ensures c.of_words.ensures)
