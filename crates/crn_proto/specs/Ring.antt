-- A ring of stream blocks: its words, what each actor knows, the moves, each of which loads or stores one word, and
-- the broadcast list that a state shows.
--
-- Word 0 is the ring cursor: twice the number of the next block to publish, and one more after the end mark. Words 1 to
-- `readers` are the readers' cursors, each a count or the mark of a reader that has left. Then come the slots.
use Rattle.std.specs.Prelude.{◌≡◌, ℕ, ◌+◌, ◌-◌, ◌*◌, ◌/◌, ◌%◌, ◌<◌, ◌≤◌, ◌≢◌, ◌==◌, Bool, true, false, cond, if◌then◌else◌, List, [], ◌∷◌, ◌++◌, length, map, replicate, Option, Some, None, slice_get, slice_set, slice_index}
use Rattle.crn_cipher.specs.declared.TheConstants.{BLOCK_WORDS}
use Rattle.crn_proto.specs.declared.spec.RingSpec.{RingSpec}
pub use Rattle.crn_proto.specs.declared.actor_parts.ProducerPart.{ProducerPart as Producer}
pub use Rattle.crn_proto.specs.declared.actor_parts.ReaderPart.{ReaderPart as Reader}
use Rattle.crn_cipher.specs.Blocks.{block_word}
use Rattle.crn_proto.specs.Stream.{front}
use Rattle.crn_proto.specs.Broadcast.{Broadcast, Event, Published, Ended, Took, Left}

-- the cursor of a reader that has left: 2 ^ 63
abbrev pub left_mark : ℕ
left_mark = 9223372036854775808

-- What the laws ask of a ring. Each ring that is opened has it.
pub record IsRing (spec : RingSpec) : Type 0 where
  pub has_slots : 0 < spec.size
  pub in_order : spec.id.first ≤ spec.id.total
  -- no count of blocks is the mark of a reader that has left
  pub total_below : spec.id.total < left_mark

-- where word i of block n stands: in slot n mod size
unfoldable pub place : RingSpec → ℕ → ℕ → ℕ
place spec n i = 1 + spec.readers + BLOCK_WORDS * (n % spec.size) + i

-- how many words the ring has
abbrev pub word_count : RingSpec → ℕ
word_count spec = 1 + spec.readers + BLOCK_WORDS * spec.size

-- 1 for true and 0 for false
abbrev pub bit : Bool → ℕ
bit b = cond b 1 0

-- The moves of a producer: it loads a reader's cursor, stores the next word of a block, publishes so many blocks, or
-- stores the end mark.
pub data ProducerMove : Type 0 where
  LoadGate : ℕ → ProducerMove
  StoreWord : ProducerMove
  Publish : ℕ → ProducerMove
  Finish : ProducerMove

-- The moves of a reader: it loads the ring cursor, loads the next word of a block, takes so many blocks, or leaves.
pub data ReaderMove : Type 0 where
  LoadCursor : ReaderMove
  LoadWord : ReaderMove
  Take : ℕ → ReaderMove
  Leave : ReaderMove

-- the block that the next stored word belongs to
abbrev pub storing : Producer → ℕ
storing p = p.published + p.stored / BLOCK_WORDS

-- the block that the next read word belongs to
abbrev pub reading : Reader → ℕ
reading q = q.taken + length q.read / BLOCK_WORDS

-- The gates let block n in: each reader that has not left has taken the block that stood in the slot before.
abbrev pub PassesGates : RingSpec → Producer → ℕ → Type 0
PassesGates spec p n = (r : ℕ) → r < spec.readers → slice_index p.gates r ≢ left_mark → n < slice_index p.gates r + spec.size

-- what the producer's own part must be for a move
abbrev pub ProducerMay : RingSpec → Producer → ProducerMove → Type 0
ProducerMay spec p (LoadGate r) = (p.ended ≡ false) × (r < spec.readers)
ProducerMay spec p StoreWord = (p.ended ≡ false) × (storing p < spec.id.total) × PassesGates spec p (storing p)
ProducerMay spec p (Publish c) = (p.ended ≡ false) × (p.stored ≡ BLOCK_WORDS * c) × (0 < c)
ProducerMay spec p Finish = (p.ended ≡ false) × (p.stored ≡ 0)

-- the word that a move loads or stores
abbrev pub producer_word : RingSpec → Producer → ProducerMove → ℕ
producer_word spec p (LoadGate r) = 1 + r
producer_word spec p StoreWord = place spec (storing p) (p.stored % BLOCK_WORDS)
producer_word spec p (Publish c) = 0
producer_word spec p Finish = 0

-- what that word is after the move, where it was `found`
abbrev pub producer_leaves : RingSpec → Producer → ProducerMove → ℕ → ℕ
producer_leaves spec p (LoadGate r) found = found
producer_leaves spec p StoreWord found = block_word spec.id.key (storing p) (p.stored % BLOCK_WORDS)
producer_leaves spec p (Publish c) found = 2 * (p.published + c)
producer_leaves spec p Finish found = 2 * p.published + 1

-- the producer's part after the move
abbrev pub producer_after : Producer → ProducerMove → ℕ → Producer
producer_after p (LoadGate r) found = record p { gates = slice_set p.gates r found; loads = p.loads ++ (r, found) ∷ []; steps = p.steps + 1 }
producer_after p StoreWord found = record p { stored = p.stored + 1; steps = p.steps + 1 }
producer_after p (Publish c) found = record p { published = p.published + c; stored = 0; steps = p.steps + 1 }
producer_after p Finish found = record p { ended = true; steps = p.steps + 1 }

-- what the reader's own part must be for a move
abbrev pub ReaderMay : Reader → ReaderMove → Type 0
ReaderMay q LoadCursor = (q.left ≡ false) × (q.seen_end ≡ false) × (length q.read ≡ 0)
ReaderMay q LoadWord = (q.left ≡ false) × (reading q < q.seen)
ReaderMay q (Take c) = (q.left ≡ false) × (length q.read ≡ BLOCK_WORDS * c) × (0 < c)
ReaderMay q Leave = (q.left ≡ false) × (length q.read ≡ 0)

-- the word that a move of reader r loads or stores
abbrev pub reader_word : RingSpec → ℕ → Reader → ReaderMove → ℕ
reader_word spec r q LoadCursor = 0
reader_word spec r q LoadWord = place spec (reading q) (length q.read % BLOCK_WORDS)
reader_word spec r q (Take c) = 1 + r
reader_word spec r q Leave = 1 + r

-- what that word is after the move, where it was `found`
abbrev pub reader_leaves : Reader → ReaderMove → ℕ → ℕ
reader_leaves q LoadCursor found = found
reader_leaves q LoadWord found = found
reader_leaves q (Take c) found = q.taken + c
reader_leaves q Leave found = left_mark

-- the reader's part after the move
abbrev pub reader_after : Reader → ReaderMove → ℕ → Reader
reader_after q LoadCursor found = record q { seen = found / 2; seen_end = found == 2 * q.taken + 1; steps = q.steps + 1 }
reader_after q LoadWord found = record q { read = q.read ++ found ∷ []; steps = q.steps + 1 }
reader_after q (Take c) found = record q { taken = q.taken + c; read = []; steps = q.steps + 1 }
reader_after q Leave found = record q { left = true; steps = q.steps + 1 }

-- A ring's state: its words, and what each actor knows.
pub record Ring : Type 0 where
  pub spec : RingSpec
  pub words : List ℕ
  pub producer : Producer
  pub readers : List Reader

-- A move of one actor.
pub data Move : Type 0 where
  ByProducer : ProducerMove → Move
  ByReader : ℕ → ReaderMove → Move

-- The move may be made in the state old, which is then new: one word and the mover's own part change.
abbrev pub LeadsTo : Ring → Move → Ring → Type 0
LeadsTo old (ByProducer m) new =
    let i = producer_word old.spec old.producer m in
    let found = slice_index old.words i in
    ProducerMay old.spec old.producer m
    × (new ≡ record old { words = slice_set old.words i (producer_leaves old.spec old.producer m found); producer = producer_after old.producer m found })
LeadsTo old (ByReader r m) new =
    (q : Reader) × (slice_get old.readers r ≡ Some q) × ReaderMay q m
    × (new ≡ record old {
      words = slice_set old.words (reader_word old.spec r q m) (reader_leaves q m (slice_index old.words (reader_word old.spec r q m)));
      readers = slice_set old.readers r (reader_after q m (slice_index old.words (reader_word old.spec r q m)));
    })

-- The moves, one after another, lead from old to new.
abbrev pub Runs : Ring → List Move → Ring → Type 0
Runs old [] new = new ≡ old
Runs old (move ∷ moves) new = (mid : Ring) × LeadsTo old move mid × Runs mid moves new

-- ---- the open state: nothing is published, taken, stored or read

-- the producer's part as a ring is opened
abbrev pub open_producer : RingSpec → Producer
open_producer spec = record {
  published = spec.id.first;
  ended = false;
  stored = 0;
  gates = replicate spec.readers spec.id.first;
  loads = [];
  steps = 0;
}

-- a reader's part as a ring is opened
abbrev pub open_reader : RingSpec → Reader
open_reader spec = record { taken = spec.id.first; seen = spec.id.first; seen_end = false; left = false; read = []; steps = 0 }

-- the words as a ring is opened: its cursor, the readers' cursors, and slots of zeros
abbrev pub open_words : RingSpec → List ℕ
open_words spec = (2 * spec.id.first ∷ replicate spec.readers spec.id.first) ++ replicate (BLOCK_WORDS * spec.size) 0

-- a ring as it is opened
abbrev pub open_ring : RingSpec → Ring
open_ring spec = record {
  spec = spec;
  words = open_words spec;
  producer = open_producer spec;
  readers = replicate spec.readers (open_reader spec);
}

-- ---- what a state shows

-- the count of a reader, or None where it has left
abbrev pub count_of : Reader → Option ℕ
count_of q = if q.left then None else Some q.taken

-- the broadcast list: the blocks from the first one to the last that is published
abbrev pub shows : Ring → Broadcast
shows s = record {
  first = s.spec.id.first;
  size = s.spec.size;
  items = front s.spec.id.key s.spec.id.first (s.producer.published - s.spec.id.first);
  ended = s.producer.ended;
  counts = map count_of s.readers;
}

-- the events among moves: loads, and stores into slots, are none
abbrev pub events : List Move → List Event
events [] = []
events (ByProducer (LoadGate r) ∷ moves) = events moves
events (ByProducer StoreWord ∷ moves) = events moves
events (ByProducer (Publish c) ∷ moves) = Published c ∷ events moves
events (ByProducer Finish ∷ moves) = Ended ∷ events moves
events (ByReader r LoadCursor ∷ moves) = events moves
events (ByReader r LoadWord ∷ moves) = events moves
events (ByReader r (Take c) ∷ moves) = Took r c ∷ events moves
events (ByReader r Leave ∷ moves) = Left r ∷ events moves
