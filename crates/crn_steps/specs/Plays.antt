-- What each kind of step does to the view of its seat, and what it tells besides.
use Rattle.std.specs.Prelude.{◌≡◌, ◌≢◌, ℕ, ◌+◌, ◌-◌, ◌/◌, ◌%◌, ◌<◌, ◌≤◌, ◌==◌, ◌||◌, ◌⊎◌, nat_lt, Bool, true, false, if◌then◌else◌, length}
use Rattle.atomic_table.specs.Table.{Me, Step}
use Rattle.crn_cipher.specs.declared.TheConstants.{BLOCK_WORDS}
use Rattle.crn_cipher.specs.Blocks.{block_word}
use Rattle.crn_proto.specs.declared.spec.RingSpec.{RingSpec}
use Rattle.crn_proto.specs.declared.actor_parts.ProducerPart.{ProducerPart}
use Rattle.crn_proto.specs.declared.actor_parts.ReaderPart.{ReaderPart}
use Rattle.crn_proto.specs.Ring.{left_mark, ProducerMove, LoadGate, StoreWord, Publish, Finish, ProducerMay, producer_word, producer_leaves, producer_after, ReaderMove, LoadCursor, LoadWord, Take, Leave, ReaderMay, reader_word, reader_leaves, reader_after, reading}
use Rattle.crn_steps.specs.declared.view.Role.TheVariants.{Reader}
use Rattle.crn_steps.specs.declared.view.View.{View}
use Rattle.crn_steps.specs.Holds.{HasProducer, HasReader}

-- what a seat knows: its view, and the slots that it carries, of which a ring has none
abbrev pub Sat : Type 0
Sat = Me (Unit {0}) View

-- how many cursors the producer has loaded in turn that let the next block in, after a move that found this value: at a
-- cursor that doesn't it begins with the first reader again
abbrev pub passed_after : RingSpec → ProducerPart → ℕ → ProducerMove → ℕ → ℕ
passed_after spec p passed (LoadGate r) found = if (found == left_mark) || nat_lt p.published (found + spec.size) then passed + 1 else 0
passed_after spec p passed StoreWord found = passed
passed_after spec p passed (Publish c) found = 0
passed_after spec p passed Finish found = passed

-- whether the reader has looked how far blocks are published and has taken none since, after a move
abbrev pub looked_after : Bool → ReaderMove → Bool
looked_after looked LoadCursor = true
looked_after looked LoadWord = looked
looked_after looked (Take c) = false
looked_after looked Leave = looked

-- Which moves these are, `GoingOn` of crn_proto says: between two batches the producer loads each reader's cursor in turn, or
-- none; then it stores words until it publishes. A reader that has seen a block to take looks again only after it has taken.

-- By this move the producer goes on.
abbrev pub ProducerGoesOn : RingSpec → ProducerPart → ℕ → ProducerMove → Type 0
ProducerGoesOn spec p passed (LoadGate r) = (p.stored ≡ 0) × (p.published < spec.id.total) × (r ≡ passed)
ProducerGoesOn spec p passed StoreWord = (0 < p.stored) ⊎ ((passed ≡ 0) ⊎ (passed ≡ spec.readers))
ProducerGoesOn spec p passed (Publish c) = Unit {0}
ProducerGoesOn spec p passed Finish = Unit {0}

-- By this move a reader goes on.
abbrev pub ReaderGoesOn : ReaderPart → Bool → ReaderMove → Type 0
ReaderGoesOn q looked LoadCursor = looked ≡ true → q.seen ≤ q.taken
ReaderGoesOn q looked LoadWord = Unit {0}
ReaderGoesOn q looked (Take c) = Unit {0}
ReaderGoesOn q looked Leave = Unit {0}

-- the view after a move of its producer that found this value
abbrev pub by_producer : ProducerMove → ℕ → View → View
by_producer m found v = record v { producer = producer_after v.producer m found; passed = passed_after v.spec v.producer v.passed m found }

-- the view after a move of its reader that found this value
abbrev pub by_reader : ReaderMove → ℕ → View → View
by_reader m found v = record v { reader = reader_after v.reader m found; looked = looked_after v.looked m }

-- the move that publishes all blocks that are stored
abbrev pub publishing : View → ProducerMove
publishing v = Publish (v.producer.stored / BLOCK_WORDS)

-- the move that takes all blocks that are read
abbrev pub taking : View → ReaderMove
taking v = Take (length v.reader.read / BLOCK_WORDS)

-- The step is this move of the producer: its part allows the move, it goes on by it, and the word, n that is there
-- afterwards, and the view afterwards are the move's.
pub record MadeByProducer (move : ProducerMove) (st : Step (Unit {0})) (m : Sat) (n : ℕ) (m' : Sat) : Type 0 where
  pub seat : HasProducer m.0
  pub may : ProducerMay m.0.spec m.0.producer move
  pub goes_on : ProducerGoesOn m.0.spec m.0.producer m.0.passed move
  pub word : st.word ≡ producer_word m.0.spec m.0.producer move
  pub leaves : n ≡ producer_leaves m.0.spec m.0.producer move n
  pub view : m' ≡ (by_producer move n m.0, m.1)

-- The step is this move of the seat's reader, as for the producer.
pub record MadeByReader (move : ReaderMove) (st : Step (Unit {0})) (m : Sat) (n : ℕ) (m' : Sat) : Type 0 where
  pub seat : HasReader m.0
  pub may : ReaderMay m.0.reader move
  pub goes_on : ReaderGoesOn m.0.reader m.0.looked move
  pub word : st.word ≡ reader_word m.0.spec m.0.number m.0.reader move
  pub leaves : n ≡ reader_leaves m.0.reader move n
  pub view : m' ≡ (by_reader move n m.0, m.1)

-- a reader's cursor was loaded: the mark of a reader that left, or a count that is at most `size` behind what is published
abbrev pub loaded_gate : Step (Unit {0}) → Sat → ℕ → Sat → Type 0
loaded_gate st m n m' = MadeByProducer (LoadGate (st.word - 1)) st m n m' × (length m.0.producer.gates ≡ m.0.spec.readers)
    × (n ≢ left_mark → (n ≤ m.0.producer.published) × (m.0.producer.published ≤ n + m.0.spec.size))

-- a word of a slot was stored
abbrev pub stored_word : Step (Unit {0}) → Sat → ℕ → Sat → Type 0
stored_word st m n m' = MadeByProducer StoreWord st m n m'

-- the blocks that were stored are published
abbrev pub published_some : Step (Unit {0}) → Sat → ℕ → Sat → Type 0
published_some st m n m' = MadeByProducer (publishing m.0) st m n m'

-- the end was marked
abbrev pub stored_end : Step (Unit {0}) → Sat → ℕ → Sat → Type 0
stored_end st m n m' = MadeByProducer Finish st m n m'

-- the ring cursor was loaded: it is not below what the reader has taken or seen, nor above the total
abbrev pub loaded_cursor : Step (Unit {0}) → Sat → ℕ → Sat → Type 0
loaded_cursor st m n m' = MadeByReader LoadCursor st m n m' × (m.0.reader.taken ≤ n / 2) × (m.0.reader.seen ≤ n / 2) × (n / 2 ≤ m.0.spec.id.total)

-- a word of a slot was loaded: it is the block's
abbrev pub loaded_word : Step (Unit {0}) → Sat → ℕ → Sat → Type 0
loaded_word st m n m' = MadeByReader LoadWord st m n m' × (n ≡ block_word m.0.spec.id.key (reading m.0.reader) (length m.0.reader.read % BLOCK_WORDS))

-- the blocks that were read are taken
abbrev pub stored_taken : Step (Unit {0}) → Sat → ℕ → Sat → Type 0
stored_taken st m n m' = MadeByReader (taking m.0) st m n m'

-- the reader has left
abbrev pub stored_left : Step (Unit {0}) → Sat → ℕ → Sat → Type 0
stored_left st m n m' = MadeByReader Leave st m n m'

-- a reader's seat is cut off the first seat
abbrev pub cut_left : View → View
cut_left v = record v { number = v.number + 1 }

-- the view of the seat that is cut off: that of the reader that waited first
abbrev pub cut_right : View → View
cut_right v = record v { role = Reader }
