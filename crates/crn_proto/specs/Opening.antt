-- Which rings may be opened, and the faults of the others.
use Rattle.std.specs.Prelude.{ℕ, ◌<◌, ◌≤◌}
use Rattle.crn_cipher.specs.declared.stream.StreamId.{StreamId}
use Rattle.crn_limits.specs.declared.TheConstants.{BLOCK_LIMIT, POLICY_LIMIT}
use Rattle.crn_limits.specs.Limits.{IsRingSize}
use Rattle.crn_proto.specs.declared.spec.RingSpec.{RingSpec}
use Rattle.crn_proto.specs.declared.fault.RingFault.{RingFault}
use Rattle.crn_proto.specs.declared.fault.RingFault.TheVariants.{Size, Readers, Stream, Memory}

-- from 1 reader to the most
abbrev pub IsReaderCount : ℕ → Type 0
IsReaderCount readers = (0 < readers) × (readers ≤ POLICY_LIMIT)

-- at most the blocks of the longest run, and a first block of at most their number
abbrev pub IsStream : StreamId → Type 0
IsStream id = (id.first ≤ id.total) × (id.total ≤ BLOCK_LIMIT)

-- there can be such a ring
pub record CanOpen (spec : RingSpec) : Type 0 where
  pub size : IsRingSize spec.size
  pub readers : IsReaderCount spec.readers
  pub stream : IsStream spec.id

-- the first fault that holds; for a ring that has none an allocation may fail
abbrev pub RefusesRing : RingSpec → RingFault → Type 0
RefusesRing spec Size = ¬ (IsRingSize spec.size)
RefusesRing spec Readers = IsRingSize spec.size × ¬ (IsReaderCount spec.readers)
RefusesRing spec Stream = IsRingSize spec.size × IsReaderCount spec.readers × ¬ (IsStream spec.id)
RefusesRing spec (Memory _) = CanOpen spec

-- the number by which a fault is reported
abbrev pub open_fault_number : RingFault → ℕ
open_fault_number Size = 1
open_fault_number Readers = 2
open_fault_number Stream = 3
open_fault_number (Memory _) = 90
