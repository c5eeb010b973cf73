-- What a producer's and a reader's moves come to, on their own parts.
use Rattle.std.specs.Prelude.{◌≡◌, ℕ, ◌+◌, ◌-◌, ◌*◌, ◌/◌, ◌<◌, ◌≤◌, true, false, slice_index, min}
use Rattle.crn_cipher.specs.declared.TheConstants.{BLOCK_WORDS}
use Rattle.crn_proto.specs.declared.spec.RingSpec.{RingSpec}
use Rattle.crn_proto.specs.declared.actor_parts.ProducerPart.{ProducerPart}
use Rattle.crn_proto.specs.declared.actor_parts.ReaderPart.{ReaderPart}
use Rattle.crn_proto.specs.Ring.{ProducerMay, producer_after, Publish, ReaderMay, reader_after, LoadCursor, Take}
use Rattle.crn_proto.specs.Chains.{ProducerReaches, ReaderReaches}
use Rattle.crn_ring.specs.Gates.{Passes, Loaded}

-- Loads and stores that publish nothing, and then the one store that publishes `count` blocks.
pub record PublishesOnce (spec : RingSpec) (p p' : ProducerPart) (count : ℕ) : Type 0 where
  pub stored : ProducerPart
  pub storing : ProducerReaches spec p (spec.readers + BLOCK_WORDS * count) stored
  pub not_yet : stored.published ≡ p.published
  pub may : ProducerMay spec stored (Publish count)
  pub published : p' ≡ producer_after stored (Publish count) 0

-- The first `count` of m blocks were published: all of them, unless a gate that was loaded now has room for no more.
pub record Publishes (spec : RingSpec) (p p' : ProducerPart) (m count : ℕ) : Type 0 where
  pub some : 0 < count
  pub at_most : count ≤ m
  pub published : p'.published ≡ p.published + count
  pub running : p'.ended ≡ false
  pub once : PublishesOnce spec p p' count
  pub until_full : count < m → Loaded spec.readers p p' × ((r : ℕ) × (r < spec.readers) × (p.published + count ≡ slice_index p'.gates r + spec.size))

-- Reader r, the first without room for the next block, has taken the blocks up to `taken`. Nothing was stored.
pub record IsFull (spec : RingSpec) (p p' : ProducerPart) (r taken : ℕ) : Type 0 where
  pub below : r < spec.readers
  pub loaded : Loaded (r + 1) p p'
  pub passed : (q : ℕ) → q < r → Passes spec.size p.published (slice_index p'.gates q)
  pub gate : slice_index p'.gates r ≡ taken
  pub full : p.published ≡ taken + spec.size
  pub nothing_stored : p' ≡ record p { gates = p'.gates; loads = p'.loads; steps = p.steps + (r + 1) }

-- A load of the ring cursor, which shows what is published, moves that take nothing, and then the one store that takes
-- `count` blocks.
pub record TakesOnce (q q' : ReaderPart) (count : ℕ) : Type 0 where
  pub may_look : ReaderMay q LoadCursor
  pub cursor : ℕ
  pub read : ReaderPart
  pub reading : ReaderReaches (reader_after q LoadCursor cursor) (BLOCK_WORDS * count) read
  pub shown : q'.seen ≡ cursor / 2
  pub not_yet : read.taken ≡ q.taken
  pub may : ReaderMay read (Take count)
  pub taken : q' ≡ reader_after read (Take count) 0

-- As many blocks were taken as were seen, and as there was room for.
pub record Takes (q q' : ReaderPart) (room count : ℕ) : Type 0 where
  pub some : 0 < count
  pub at_most : count ≡ min room (q'.seen - q.taken)
  pub taken : q'.taken ≡ q.taken + count
  pub running : q'.seen_end ≡ false
  pub seen : q.seen ≤ q'.seen
  pub once : TakesOnce q q' count

-- Moves that take nothing, and then the one store that takes `count` blocks.
pub record TakesRead (q q' : ReaderPart) (count : ℕ) : Type 0 where
  pub read : ReaderPart
  pub reading : ReaderReaches q (BLOCK_WORDS * count) read
  pub not_yet : read.taken ≡ q.taken
  pub may : ReaderMay read (Take count)
  pub taken : q' ≡ reader_after read (Take count) 0

-- As many of the blocks that were seen before were taken as there was room for. What was seen stays.
pub record TakesShown (q q' : ReaderPart) (room count : ℕ) : Type 0 where
  pub at_most : count ≡ min room (q.seen - q.taken)
  pub taken : q'.taken ≡ q.taken + count
  pub seen : q'.seen ≡ q.seen
  pub same_end : q'.seen_end ≡ q.seen_end
  pub none : count ≡ 0 → q' ≡ q
  pub once : 0 < count → TakesRead q q' count

-- One load of the ring cursor has shown that all published blocks are taken, and no end.
pub record SeesNothing (q q' : ReaderPart) (published : ℕ) : Type 0 where
  pub all_taken : published ≡ q.taken
  pub seen : q.seen ≤ published
  pub one_load : q' ≡ reader_after q LoadCursor (2 * q.taken)
  pub stays : q'.taken ≡ q.taken
  pub running : q'.seen_end ≡ false

-- One load of the ring cursor has shown that all published blocks are taken, and the end.
pub record SeesEnd (q q' : ReaderPart) (published : ℕ) : Type 0 where
  pub all_taken : published ≡ q.taken
  pub seen : q.seen ≤ published
  pub one_load : q' ≡ reader_after q LoadCursor (2 * q.taken + 1)
  pub stays : q'.taken ≡ q.taken
  pub ended : q'.seen_end ≡ true
