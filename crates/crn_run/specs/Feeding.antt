-- How a producer publishes what is left of its ring's stream.
use Rattle.std.specs.Prelude.{◌≡◌, ℕ, zero, suc, ◌+◌, ◌-◌, ◌<◌, false, min}
use Rattle.crn_proto.specs.declared.spec.RingSpec.{RingSpec}
use Rattle.crn_proto.specs.declared.actor_parts.ProducerPart.{ProducerPart}
use Rattle.crn_proto.specs.Ring.{producer_after, Finish}
use Rattle.crn_ring.specs.Gates.{HaveRoom}
use Rattle.crn_ring.specs.Parts.{IsFull, Publishes, PublishesOnce}
use Rattle.crn_ring.specs.declared.answers.PublishMany.{PublishMany}
use Rattle.crn_ring.specs.declared.answers.PublishMany.TheVariants.{Done, Full}
use Rattle.crn_run.specs.Waits.{Waits, producer_sleep}
use Rattle.crn_run.specs.declared.pausing.Pause.{Pause}
use Rattle.crn_run.specs.declared.waiting.Counted.{Counted}

-- how many blocks the producer's next batch has: 16, or all that are left
abbrev pub batch_length : RingSpec → ProducerPart → ℕ
batch_length spec p = min 16 (spec.id.total - p.published)

-- The producer has looked for room for the next m blocks: the first of them are published, or there is room for none, and it
-- waits once. The wait follows from those before it.
abbrev pub AfterOffer : RingSpec → ℕ → ProducerPart → Counted → ProducerPart → Counted → PublishMany → Type 0
AfterOffer spec m p w p' w' (Done count) = Publishes spec p p' m count × (w' ≡ w)
AfterOffer spec m p w p' w' (Full r taken) = IsFull spec p p' r taken × ((pause : Pause) × Waits spec.size (producer_sleep spec.size) p'.published w w' pause)

-- Such a look for all blocks that are left below block n, of which there are some.
pub record Offers (spec : RingSpec) (n : ℕ) (p : ProducerPart) (w : Counted) (p' : ProducerPart) (w' : Counted) : Type 0 where
  pub left : ℕ
  pub some : 0 < left
  pub all : p.published + left ≡ n
  pub answer : PublishMany
  pub after : AfterOffer spec left p w p' w' answer

-- So many looks, one after another.
abbrev pub OffersAll : ℕ → RingSpec → ℕ → ProducerPart → Counted → ProducerPart → Counted → Type 0
OffersAll zero spec n p w p' w' = (p' ≡ p) × (w' ≡ w)
OffersAll (suc count) spec n p w p' w' = (between : ProducerPart) × (v : Counted) × OffersAll count spec n p w between v × Offers spec n between v p' w'

-- The next batch is published: each look is for all that is left of it. There is one store if the remembered gates leave room
-- for the whole batch, and else one for each look that finds room.
pub record PublishesBatch (spec : RingSpec) (p : ProducerPart) (w : Counted) (p' : ProducerPart) (w' : Counted) : Type 0 where
  pub published : p'.published ≡ p.published + batch_length spec p
  pub running : p'.ended ≡ false
  pub once : HaveRoom spec p (batch_length spec p) → PublishesOnce spec p p' (batch_length spec p)
  pub looks : (count : ℕ) × OffersAll count spec (p.published + batch_length spec p) p w p' w'

-- So many batches are published, one after another.
abbrev pub PublishesBatches : ℕ → RingSpec → ProducerPart → Counted → ProducerPart → Counted → Type 0
PublishesBatches zero spec p w p' w' = (p' ≡ p) × (w' ≡ w)
PublishesBatches (suc count) spec p w p' w' = (between : ProducerPart) × (v : Counted) × PublishesBatches count spec p w between v × PublishesBatch spec between v p' w'

-- The batches of a thread that has not waited before the first.
pub record PublishesByBatches (spec : RingSpec) (p p' : ProducerPart) (w' : Counted) : Type 0 where
  pub count : ℕ
  pub first : Counted
  pub unwaited : first.awake ≡ 0
  pub batches : PublishesBatches count spec p first p' w'

-- All blocks up to the ring's total are published by such batches, and then the end is marked.
pub record Feeds (spec : RingSpec) (p p' : ProducerPart) : Type 0 where
  pub last : ProducerPart
  pub waited : Counted
  pub batches : PublishesByBatches spec p last waited
  pub whole : last.published ≡ spec.id.total
  pub end : p' ≡ producer_after last Finish 0
