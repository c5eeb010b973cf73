-- Why a run of all policies has no result.
use Rattle.std.specs.Prelude.{◌≡◌, ℕ, ◌<◌, Bool, true, List, Option, None, Some}
use Rattle.crn_stock.specs.Parts.{Parts}
use Rattle.crn_stock.specs.Models.{ScenarioParts}
use Rattle.crn_ring.specs.declared.ring.Ring.{Ring}
use Rattle.crn_ring.specs.declared.producer.Producer.{Producer}
use Rattle.crn_ring.specs.declared.reader.Reader.{Reader}
use Rattle.crn_ring.specs.Calls.{IsProducerOf, producer_part, spec_of}
use Rattle.crn_run.specs.Ends.{HasReadAll}
use Rattle.crn_run.specs.Jobs.{ring_spec}
use Rattle.crn_run.specs.Threads.{FromThreads}
use Rattle.crn_run.specs.declared.fault.Cause.{Cause}
use Rattle.crn_run.specs.declared.fault.Cause.TheVariants.{Refused, Ended}
use Rattle.crn_run.specs.declared.fault.RunFault.{RunFault}
use Rattle.crn_run.specs.declared.fault.RunFault.TheVariants.{Thread, Gate, Memory}

-- the number by which a fault is told
abbrev pub run_fault_number : RunFault → ℕ
run_fault_number (Thread _) = 1
run_fault_number Gate = 2
run_fault_number (Memory _) = 90

-- the block before which a reader found the end of the ring, or none if a thread failed to start
abbrev pub found_end : Cause → Option ℕ
found_end (Refused _) = None
found_end (Ended n) = Some n

-- the ring's producer has marked the end with nothing published
pub record EndedUnused (ring : Ring) : Type 0 where
  pub producer : Producer
  pub of_ring : IsProducerOf ring producer
  pub nothing : (producer_part producer).published ≡ (spec_of ring).id.first
  pub ended : (producer_part producer).ended ≡ true

-- a reader of the ring has seen the end before block n, which is below upto
pub record EndedEarly (ring : Ring) (upto n : ℕ) : Type 0 where
  pub number : ℕ
  pub reader : Reader
  pub read : HasReadAll ring number n reader
  pub early : n < upto

-- a reader found the end early, before this block, or, with none, the end was marked with nothing published
abbrev pub IsEndedOn : Ring → ℕ → Option ℕ → Type 0
IsEndedOn ring upto None = EndedUnused ring
IsEndedOn ring upto (Some n) = EndedEarly ring upto n

-- so of a ring of the scenario for the blocks from `first` to upto - 1, and of its threads
pub record IsEnded {Gate : Type 0} (refused : Gate → Bool) (asked : Gate → ℕ → ℕ → Bool → Gate → Type 0) (s : ScenarioParts) (first upto : ℕ) (start : List Parts) (gates : List Gate) (found : Option ℕ) : Type 0 where
  pub ring : Ring
  pub spec : spec_of ring ≡ ring_spec s first upto
  pub ended : IsEndedOn ring upto found
  pub threads : FromThreads refused asked s ring start gates found
