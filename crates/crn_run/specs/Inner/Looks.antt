-- Looks at a ring that show a thread nothing to do.
use Rattle.std.specs.Prelude.{ℕ}
use Rattle.crn_proto.specs.declared.spec.RingSpec.{RingSpec}
use Rattle.crn_proto.specs.declared.actor_parts.ProducerPart.{ProducerPart}
use Rattle.crn_proto.specs.declared.actor_parts.ReaderPart.{ReaderPart}
use Rattle.crn_ring.specs.Parts.{IsFull, SeesNothing}

-- The last look of a reader that knew q and now knows q': one load of the ring cursor, which showed that all published blocks
-- are taken, and no end. So it has taken nothing since.
abbrev pub HasSeenNoBlock : ReaderPart → ReaderPart → Type 0
HasSeenNoBlock q q' = (published : ℕ) × SeesNothing q q' published

-- The last look of the producer, which knew p and now knows p': loads of the readers' cursors, up to one of a reader that has
-- not freed the slot of the next block. So it has stored nothing since.
pub record HasSeenNoSlot (spec : RingSpec) (p p' : ProducerPart) : Type 0 where
  pub reader : ℕ
  pub taken : ℕ
  pub full : IsFull spec p p' reader taken
