-- What always holds of a ring's words and of the actors' parts, whichever of them are known. The law of a part speaks of
-- that part and the words alone, so it says nothing of the parts that are missing.
use Rattle.std.specs.Prelude.{◌≡◌, ℕ, suc, ◌+◌, ◌*◌, ◌/◌, ◌%◌, ◌<◌, ◌≤◌, ◌≢◌, ◌⊎◌, true, false, List, [], ◌∷◌, length, Some, slice_get, slice_index}
use Rattle.crn_cipher.specs.declared.TheConstants.{BLOCK_WORDS}
use Rattle.crn_proto.specs.declared.spec.RingSpec.{RingSpec}
pub use Rattle.crn_proto.specs.declared.actor_parts.Part.{Part}
pub use Rattle.crn_proto.specs.declared.actor_parts.Part.TheVariants.{OfProducer, OfReader}
use Rattle.crn_cipher.specs.Blocks.{block_word}
use Rattle.crn_proto.specs.Stream.{first_words}
use Rattle.crn_proto.specs.Ring.{left_mark, place, word_count, bit, Producer, Reader, PassesGates, Ring, open_words}

-- The words alone: each reader that has not left has taken at most what is published, and is at most `size` behind.
pub record WordsLaw (spec : RingSpec) (words : List ℕ) : Type 0 where
  pub sized : length words ≡ word_count spec
  pub in_total : slice_index words 0 / 2 ≤ spec.id.total
  pub cursors : (r : ℕ) → r < spec.readers → (slice_index words (1 + r) ≡ left_mark)
      ⊎ ((slice_index words (1 + r) ≤ slice_index words 0 / 2) × (slice_index words 0 / 2 ≤ slice_index words (1 + r) + spec.size))

-- word j of those from block n on stands in its place
abbrev pub WordStands : RingSpec → List ℕ → ℕ → ℕ → Type 0
WordStands spec words n j = slice_index words (place spec (n + j / BLOCK_WORDS) (j % BLOCK_WORDS)) ≡ block_word spec.id.key (n + j / BLOCK_WORDS) (j % BLOCK_WORDS)

-- the producer's part
pub record ProducerLaw (spec : RingSpec) (words : List ℕ) (p : Producer) : Type 0 where
  pub cursor : slice_index words 0 ≡ 2 * p.published + bit p.ended
  pub from_first : spec.id.first ≤ p.published
  pub in_total : p.published ≤ spec.id.total
  pub gate_count : length p.gates ≡ spec.readers
  pub gates_low : (r : ℕ) → r < spec.readers → slice_index p.gates r ≤ slice_index words (1 + r)
  -- each block that has a stored word is one of the stream, and the gates let it in
  pub stored_in_total : (j : ℕ) → j < p.stored → p.published + j / BLOCK_WORDS < spec.id.total
  pub stored_passed : (j : ℕ) → j < p.stored → PassesGates spec p (p.published + j / BLOCK_WORDS)
  -- the stored words stand, as long as some reader has not left
  pub stored_stand : (j r : ℕ) → j < p.stored → r < spec.readers → slice_index words (1 + r) ≢ left_mark → WordStands spec words p.published j
  pub none_stored : p.ended ≡ true → p.stored ≡ 0
  -- until the first word is stored, each word above the cursors is as it was opened
  pub as_opened : p.published ≡ spec.id.first → p.stored ≡ 0 → (i : ℕ) → spec.readers < i → slice_index words i ≡ slice_index (open_words spec) i

-- a reader that has not left
pub record ReaderHere (spec : RingSpec) (words : List ℕ) (r : ℕ) (q : Reader) : Type 0 where
  pub cursor : slice_index words (1 + r) ≡ q.taken
  pub taken_seen : q.taken ≤ q.seen
  pub seen_published : q.seen ≤ slice_index words 0 / 2
  -- each published block that it has not taken stands whole in its slot
  pub whole : (n i : ℕ) → q.taken ≤ n → n < slice_index words 0 / 2 → i < BLOCK_WORDS → slice_index words (place spec n i) ≡ block_word spec.id.key n i
  pub read_seen : BLOCK_WORDS * q.taken + length q.read ≤ BLOCK_WORDS * q.seen
  pub read_words : q.read ≡ first_words spec.id.key q.taken (length q.read)

-- the part of reader r
pub record ReaderLaw (spec : RingSpec) (words : List ℕ) (r : ℕ) (q : Reader) : Type 0 where
  pub known : r < spec.readers
  pub from_first : spec.id.first ≤ q.taken
  pub gone : q.left ≡ true → slice_index words (1 + r) ≡ left_mark
  pub here : q.left ≡ false → ReaderHere spec words r q
  -- once it has seen the end, nothing more is published
  pub at_end : q.seen_end ≡ true → slice_index words 0 ≡ 2 * q.taken + 1

-- the law of a part
abbrev pub PartLaw : RingSpec → List ℕ → Part → Type 0
PartLaw spec words (OfProducer p) = ProducerLaw spec words p
PartLaw spec words (OfReader r q) = ReaderLaw spec words r q

-- The words and some actors' parts are lawful.
pub record Lawful (spec : RingSpec) (words : List ℕ) (parts : List Part) : Type 0 where
  pub of_words : WordsLaw spec words
  pub of_parts : (k : ℕ) (part : Part) → slice_get parts k ≡ Some part → PartLaw spec words part

-- the parts of these readers, whose numbers begin with r
abbrev pub reader_parts : ℕ → List Reader → List Part
reader_parts r [] = []
reader_parts r (q ∷ readers) = OfReader r q ∷ reader_parts (suc r) readers

-- the parts of all actors of a ring
abbrev pub parts_of : Ring → List Part
parts_of s = OfProducer s.producer ∷ reader_parts 0 s.readers

-- the cursor that an actor owns: 0 for the producer, 1 + r for reader r
abbrev pub own_cursor : Part → ℕ
own_cursor (OfProducer p) = 0
own_cursor (OfReader r q) = 1 + r

-- No two parts are of one actor.
abbrev pub Apart : List Part → Type 0
Apart parts = (j k : ℕ) (a b : Part) → slice_get parts j ≡ Some a → slice_get parts k ≡ Some b → own_cursor a ≡ own_cursor b → j ≡ k
