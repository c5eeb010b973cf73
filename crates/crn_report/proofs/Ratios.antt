-- A fraction's text calls for no quotes.
use Rattle.std.proofs.Common.{◌≡◌, ℕ, ℤ, ◌<◌, ◌^◌, true, ◌++◌, codes, decimal, refl, arith}
use lib.Signed.{mag}
use Rattle.std.specs.Fmt.{signed_decimal}
use Rattle.crn_rows.specs.Plain.{is_plain}
use Rattle.crn_rows.proofs.Plainness.{decimal_plain, signed_plain, plain_append}

pub ratio_plain : (z : ℤ) (n : ℕ) → mag z < 2 ^ 127 → n < 2 ^ 64 → is_plain (signed_decimal z ++ codes "/" ++ decimal n) ≡ true
ratio_plain z n hz hn = plain_append (signed_decimal z ++ codes "/") (decimal n) (plain_append (signed_decimal z) (codes "/") (signed_plain z hz) refl) (decimal_plain n (omega arith))
