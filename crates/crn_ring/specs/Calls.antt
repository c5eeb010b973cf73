-- What the calls of a ring, a producer and a reader speak of.
use Rattle.std.specs.Prelude.{◌≡◌, ℕ, List, length, slice_get, Some, drop}
use mathlib.Core.Option.{some}
use lib.ListN.{get_elem?}
use Rattle.crn_cipher.specs.declared.stream.Block.{Block}
use Rattle.crn_cipher.specs.Following.{FollowOn}
use Rattle.crn_proto.specs.declared.spec.RingSpec.{RingSpec}
use Rattle.crn_proto.specs.declared.actor_parts.ProducerPart.{ProducerPart}
use Rattle.crn_proto.specs.declared.actor_parts.ReaderPart.{ReaderPart}
use Rattle.crn_proto.specs.Ring.{open_producer, open_reader, open_words}
use Rattle.crn_steps.specs.Schedules.{TableState}
use Rattle.crn_steps.specs.Places.{IsAt}
use Rattle.crn_ring.specs.declared.ring.Ring.{Ring}
use Rattle.crn_ring.specs.declared.producer.Producer.{Producer}
use Rattle.crn_ring.specs.declared.reader.Reader.{Reader}
use Rattle.crn_ring.specs.declared.reader.LeftReader.{LeftReader}
use Rattle.crn_ring.specs.declared.answers.Publish.{Publish}
use Rattle.crn_ring.specs.declared.answers.Publish.TheVariants as One
use Rattle.crn_ring.specs.declared.answers.PublishMany.{PublishMany}
use Rattle.crn_ring.specs.declared.answers.PublishMany.TheVariants as Many
use Rattle.crn_ring.specs.declared.answers.Take.{Take}
use Rattle.crn_ring.specs.declared.answers.Take.TheVariants as Next
use Rattle.crn_ring.specs.declared.answers.Batch.{Batch}
use Rattle.crn_ring.specs.declared.answers.Batch.TheVariants as Several
use Rattle.crn_steps.specs.Holds.{Holds}
use Rattle.crn_steps.specs.Seats.{view_of, spec_in, producer_in, reader_in}
use Rattle.crn_ring.specs.Parts.{Publishes, IsFull, Takes, TakesShown, SeesNothing, SeesEnd}

-- the size, the number of readers and the stream that a ring was opened with
abbrev pub spec_of : Ring → RingSpec
spec_of ring = ring.words.spec

-- the part of the ring's state that is the producer's
abbrev pub producer_part : Producer → ProducerPart
producer_part p = producer_in p.seat

-- a reader's part of the ring's state
abbrev pub reader_part : Reader → ReaderPart
reader_part r = reader_in r.seat

-- the number of a reader
abbrev pub reader_number : Reader → ℕ
reader_number r = r.number

-- the ring that the producer, or a reader, was opened with
abbrev pub producer_spec : Producer → RingSpec
producer_spec p = spec_in p.seat

abbrev pub reader_spec : Reader → RingSpec
reader_spec r = spec_in r.seat

-- The producer is this ring's.
abbrev pub IsProducerOf : Ring → Producer → Type 0
IsProducerOf ring p = IsAt ring.words p.seat

-- The reader is this ring's.
abbrev pub IsReaderOf : Ring → Reader → Type 0
IsReaderOf ring r = IsAt ring.words r.seat

-- What a reader that has left has done.
abbrev pub left_part : LeftReader → ReaderPart
left_part x = reader_in x.seat

-- What is left is reader number r of this ring.
abbrev pub HasLeft : Ring → ℕ → LeftReader → Type 0
HasLeft ring r x = IsAt ring.words x.seat × ((view_of x.seat).number ≡ r)

-- Reader x is number r of this ring, as it is at open.
abbrev pub IsFresh : Ring → ℕ → Reader → Type 0
IsFresh ring r x = IsReaderOf ring x × (reader_number x ≡ r) × (reader_part x ≡ open_reader (spec_of ring))

abbrev pub AllFresh : Ring → List Reader → Type 0
AllFresh ring xs = (r : ℕ) (x : Reader) → slice_get xs r ≡ Some x → IsFresh ring r x

-- A state of the ring's table in which the rule holds, and the producer and the readers know what they know here.
pub record IsStateOf (ring : Ring) (p : Producer) (readers : List Reader) (s : TableState) : Type 0 where
  pub rule : Holds (spec_of ring) s
  pub producer : get_elem? s.views p.seat.id ≡ some (view_of p.seat)
  pub reader : (r : ℕ) (x : Reader) → slice_get readers r ≡ Some x → get_elem? s.views x.seat.id ≡ some (view_of x.seat)

-- The ring, its producer and its readers in order, as they are at open. Whatever else the table's state is, its words are
-- those of the open ring.
pub record IsOpened (spec : RingSpec) (ring : Ring) (p : Producer) (readers : List Reader) : Type 0 where
  pub as_given : spec_of ring ≡ spec
  pub producer_of : IsProducerOf ring p
  pub producer_open : producer_part p ≡ open_producer spec
  pub count : length readers ≡ spec.readers
  pub readers_open : AllFresh ring readers
  pub words_open : (s : TableState) → IsStateOf ring p readers s → s.words ≡ open_words spec

-- The producer's part after each answer of `try_publish`, and after each of `publish_batch` of m blocks.
abbrev pub AfterPublish : RingSpec → ProducerPart → ProducerPart → Publish → Type 0
AfterPublish spec p p' One.Done = Publishes spec p p' 1 1
AfterPublish spec p p' (One.Full r taken) = IsFull spec p p' r taken

abbrev pub AfterPublishMany : RingSpec → ProducerPart → ProducerPart → ℕ → PublishMany → Type 0
AfterPublishMany spec p p' m (Many.Done count) = Publishes spec p p' m count
AfterPublishMany spec p p' m (Many.Full r taken) = IsFull spec p p' r taken

-- A reader's part after each answer of `try_take`.
abbrev pub AfterTake : RingSpec → ReaderPart → ReaderPart → Take → Type 0
AfterTake spec q q' (Next.Got b) = Takes q q' 1 1 × (b.key ≡ spec.id.key) × (b.number ≡ q.taken)
AfterTake spec q q' (Next.Empty published) = SeesNothing q q' published
AfterTake spec q q' (Next.Ended published) = SeesEnd q q' published

-- A reader's part and the blocks lent, after each answer of `take_batch`.
abbrev pub AfterBatch : RingSpec → ReaderPart → ReaderPart → List Block → List Block → Batch → Type 0
AfterBatch spec q q' out out' (Several.Got count) = Takes q q' (length out) count × FollowOn spec.id.key q.taken count out' × (drop count out' ≡ drop count out)
AfterBatch spec q q' out out' (Several.Empty published) = SeesNothing q q' published × (out' ≡ out)
AfterBatch spec q q' out out' (Several.Ended published) = SeesEnd q q' published × (out' ≡ out)

-- A reader's part and the blocks lent, after `take_shown` has taken so many.
abbrev pub AfterShown : RingSpec → ReaderPart → ReaderPart → List Block → List Block → ℕ → Type 0
AfterShown spec q q' out out' count = TakesShown q q' (length out) count × FollowOn spec.id.key q.taken count out' × (drop count out' ≡ drop count out)
