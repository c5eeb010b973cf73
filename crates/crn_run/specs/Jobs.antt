-- The runs of all policies over one ring, each by a reader and on a thread of its own.
use Rattle.std.specs.Prelude.{◌≡◌, ℕ, List, Some, length, slice_get}
use Rattle.crn_stock.specs.Models.{ScenarioParts}
use Rattle.crn_proto.specs.declared.spec.RingSpec.{RingSpec}
use Rattle.crn_ring.specs.declared.ring.Ring.{Ring}
use Rattle.crn_ring.specs.declared.reader.Reader.{Reader}
use Rattle.crn_ring.specs.Calls.{spec_of}
use Rattle.crn_run.specs.Ends.{HasReadAll}

-- the scenario's ring for the blocks from `first` to upto - 1: a reader for each policy
abbrev pub ring_spec : ScenarioParts → ℕ → ℕ → RingSpec
ring_spec s first upto = record { size = s.ring; readers = length s.policies; id = record { key = s.key; first = first; total = upto } }

-- the readers, one for each policy, of a ring of the scenario for the blocks from `first` to upto - 1. Each has taken them all
-- and seen the end
pub record AreReaders (s : ScenarioParts) (first upto : ℕ) (readers : List Reader) : Type 0 where
  pub ring : Ring
  pub spec : spec_of ring ≡ ring_spec s first upto
  pub count : length readers ≡ length s.policies
  pub each : (k : ℕ) (x : Reader) → slice_get readers k ≡ Some x → HasReadAll ring k upto x
