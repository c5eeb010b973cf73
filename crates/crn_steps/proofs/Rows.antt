-- Where the words of a block stand.
use Rattle.std.proofs.Common.{◌≡◌, ℕ, ◌+◌, arith}
use Rattle.crn_proto.specs.declared.spec.RingSpec.{RingSpec}
use Rattle.crn_proto.specs.Ring.{place}

pub place_from : (spec : RingSpec) (n i base : ℕ) → base ≡ place spec n 0 → base + i ≡ place spec n i
unfolding place
place_from spec n i base e = omega arith
