-- Opening a ring of a scenario fails only if an allocation fails.
use Rattle.std.proofs.Common.{◌≡◌, refl, alloc_error}
use Rattle.crn_proto.specs.declared.spec.RingSpec.{RingSpec}
use Rattle.crn_proto.specs.declared.fault.RingFault.{RingFault}
use Rattle.crn_proto.specs.declared.fault.RingFault.TheVariants.{Size, Readers, Stream, Memory}
use Rattle.crn_proto.specs.Opening.{CanOpen, RefusesRing}

-- a ring that can be opened
pub only_memory : (spec : RingSpec) (f : RingFault) → CanOpen spec → RefusesRing spec f → f ≡ Memory alloc_error
only_memory spec Size can r = absurd (r can.size)
only_memory spec Readers can r = absurd (r.1 can.readers)
only_memory spec Stream can r = absurd (r.2 can.stream)
only_memory spec (Memory _) can r = refl
