-- An estimate is a quotient where there are parts to divide by.
use Rattle.std.proofs.Common.{◌<◌, ℕ, zero, suc, ℤ, arith, refl, Some}
use Rattle.crn_pair.specs.declared.fraction.Fraction.{Fraction}
use Rattle.crn_pair.specs.Pairs.{IsQuotient, IsQuotientIfAny}

pub estimated : (num : ℤ) (den : ℕ) (f : Fraction) → 0 < den → IsQuotient num den f → IsQuotientIfAny num den (Some f)
estimated num zero f some e = absurd (omega arith)
estimated num (suc d) f some e = (f, refl, e)
