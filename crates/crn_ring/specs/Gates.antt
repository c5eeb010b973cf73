-- The gates of a producer: what it last loaded from each reader's cursor, a count, or the mark of a reader that left.
use Rattle.std.specs.Prelude.{◌≡◌, ◌≢◌, ℕ, ◌+◌, ◌<◌, ◌≤◌, List, ◌++◌, length, Some, slice_get, slice_index}
use Rattle.crn_proto.specs.declared.spec.RingSpec.{RingSpec}
use Rattle.crn_proto.specs.declared.actor_parts.ProducerPart.{ProducerPart}
use Rattle.crn_proto.specs.Ring.{left_mark}

-- a gate of this value has room for block n
abbrev pub Passes : ℕ → ℕ → ℕ → Type 0
Passes size n gate = gate ≢ left_mark → n < gate + size

-- Each gate has room for the next m blocks.
abbrev pub HaveRoom : RingSpec → ProducerPart → ℕ → Type 0
HaveRoom spec p m = (r : ℕ) → r < spec.readers → slice_index p.gates r ≢ left_mark → p.published + m ≤ slice_index p.gates r + spec.size

-- The cursors of the readers below k were loaded, each once and in order.
pub record Loaded (k : ℕ) (p p' : ProducerPart) : Type 0 where
  pub entries : List (ℕ × ℕ)
  pub added : p'.loads ≡ p.loads ++ entries
  pub one_each : length entries ≡ k
  pub in_order : (r : ℕ) → r < k → slice_get entries r ≡ Some (r, slice_index p'.gates r)

-- least is the greatest number that no gate is below, and each gate still lets in what is published
pub record Remembers (size published readers : ℕ) (gates : List ℕ) (least : ℕ) : Type 0 where
  pub low : (r : ℕ) → r < readers → least ≤ slice_index gates r
  pub high : least ≤ left_mark
  pub exact : (x : ℕ) → x ≤ left_mark → ((r : ℕ) → r < readers → x ≤ slice_index gates r) → x ≤ least
  pub room : (r : ℕ) → r < readers → published ≤ slice_index gates r + size
