-- Blocks that came through a ring.
use Rattle.std.specs.Prelude.{◌≡◌, ℕ, ◌+◌, List, vec_len}
use Rattle.crn_proto.specs.declared.spec.RingSpec.{RingSpec}
use Rattle.crn_ring.specs.declared.ring.Ring.{Ring}
use Rattle.crn_ring.specs.declared.reader.LeftReader.{LeftReader}
use Rattle.crn_ring.specs.Calls.{HasLeft, left_part, spec_of}
use Rattle.uses.specs.declared.taken.Taken.{Taken}

-- The next `count` blocks of the ring's stream from block n on. Its reader number k has taken all blocks below n + count, no
-- more, and has left.
pub record CameThrough (ring : Ring) (k n count : ℕ) (taken : Taken) (left : LeftReader) : Type 0 where
  pub key : taken.key ≡ (spec_of ring).id.key
  pub first : taken.first ≡ n
  pub count_is : vec_len taken.blocks ≡ count
  pub left_ring : HasLeft ring k left
  pub upto : (left_part left).taken ≡ n + count

-- the ring of 16 slots and one reader for the blocks of a key below `total`
abbrev pub small_ring : List ℕ → ℕ → RingSpec
small_ring key total = record { size = 16; readers = 1; id = record { key = key; first = 0; total = total } }

-- The first `count` blocks of the key came through such a ring.
pub record CameThroughARing (key : List ℕ) (total count : ℕ) (taken : Taken) (left : LeftReader) : Type 0 where
  pub ring : Ring
  pub spec : spec_of ring ≡ small_ring key total
  pub came : CameThrough ring 0 0 count taken left
