-- Progress of the ring with batches of every length, as a law of its runs: which moves an actor makes that goes on, and when
-- all have finished. Actors are numbered by the cursors that they own: actor 0 is the producer, actor 1 + r is reader r.
use Rattle.std.specs.Prelude.{◌≡◌, ℕ, suc, ◌+◌, ◌*◌, ◌<◌, ◌≤◌, ◌==◌, ◌||◌, ◌⊎◌, nat_lt, Bool, true, false, if◌then◌else◌, List, [], ◌∷◌, length, slice_index}
use Rattle.crn_cipher.specs.declared.TheConstants.{BLOCK_WORDS}
use Rattle.crn_proto.specs.declared.spec.RingSpec.{RingSpec}
use Rattle.crn_proto.specs.Ring.{IsRing, Ring, Move, ByProducer, ByReader, LoadGate, StoreWord, Publish, Finish, LoadCursor, LoadWord, Take, Leave, LeadsTo, left_mark, open_ring, bit}
use Rattle.crn_proto.specs.Traces.{kind_of, reader_at}
use Rattle.crn_proto.specs.Progress.{Mark, has_finished, AllFinished, is_store, turns_to_progress, IsRound, rounds_of}

-- ---- actors that go on

-- how far actors that go on have looked around
pub record Watch : Type 0 where
  -- The producer has loaded the cursors of so many readers in turn, and each of them lets the next block in.
  pub passed : ℕ
  -- Reader r has looked how far blocks are published, and has taken none since.
  pub looked : ℕ → Bool

-- before any move
abbrev pub open_watch : Watch
open_watch = record { passed = 0; looked = λ r. false }

-- what reader r's look, or its taking of blocks, changes
abbrev pub looks : Watch → ℕ → Bool → Watch
looks w r now = record w { looked = λ k. if k == r then now else w.looked k }

-- a cursor lets the next block in if its reader has left, or has taken the block that stood in the slot before
abbrev pub lets_in : Ring → ℕ → Bool
lets_in s count = (count == left_mark) || nat_lt s.producer.published (count + s.spec.size)

-- how far they have looked after a move in the state s; at a cursor that doesn't let the next block in the producer begins
-- with the first reader again
abbrev pub watch_after : Ring → Watch → Move → Watch
watch_after s w (ByProducer (LoadGate r)) = record w { passed = if lets_in s (slice_index s.words (1 + r)) then w.passed + 1 else 0 }
watch_after s w (ByProducer StoreWord) = w
watch_after s w (ByProducer (Publish c)) = record w { passed = 0 }
watch_after s w (ByProducer Finish) = w
watch_after s w (ByReader r LoadCursor) = looks w r true
watch_after s w (ByReader r LoadWord) = w
watch_after s w (ByReader r (Take c)) = looks w r false
watch_after s w (ByReader r Leave) = w

-- The moves of actors that go on, with batches of at most b blocks. Between two batches the producer loads each reader's
-- cursor in turn, or none if the counts that it remembers let the next block in; then it stores words until it publishes. A
-- reader that has seen a block to take reads words until it takes, and looks again only then. At any time the producer may
-- end the stream, and a reader may leave.
abbrev pub GoingOn : ℕ → Ring → Watch → Move → Type 0
GoingOn b s w (ByProducer (LoadGate r)) = (s.producer.stored ≡ 0) × (s.producer.published < s.spec.id.total) × (r ≡ w.passed)
GoingOn b s w (ByProducer StoreWord) = (s.producer.stored < BLOCK_WORDS * b) × ((0 < s.producer.stored) ⊎ ((w.passed ≡ 0) ⊎ (w.passed ≡ s.spec.readers)))
GoingOn b s w (ByProducer (Publish c)) = Unit {0}
GoingOn b s w (ByProducer Finish) = Unit {0}
GoingOn b s w (ByReader r LoadCursor) = (w.looked r ≡ false) ⊎ ((reader_at s r).seen ≤ (reader_at s r).taken)
GoingOn b s w (ByReader r LoadWord) = length (reader_at s r).read < BLOCK_WORDS * b
GoingOn b s w (ByReader r (Take c)) = Unit {0}
GoingOn b s w (ByReader r Leave) = Unit {0}

-- The moves of actors that go on, one after another, lead from old to new.
abbrev pub GoesOnTo : ℕ → Ring → Watch → List Move → Ring → Watch → Type 0
GoesOnTo b old w [] new v = (new ≡ old) × (v ≡ w)
GoesOnTo b old w (move ∷ moves) new v = (mid : Ring) × LeadsTo old move mid × GoingOn b old w move × GoesOnTo b mid (watch_after old w move) moves new v

-- ---- what progress is

-- the actor that makes a move
abbrev pub mover : Move → ℕ
mover (ByProducer m) = 0
mover (ByReader r m) = suc r

-- how far the actors of a ring are
abbrev pub ring_mark : Ring → Mark
ring_mark s = record {
  published = s.producer.published;
  ended = s.producer.ended;
  taken = λ r. (reader_at s r).taken;
  left = λ r. (reader_at s r).left;
  seen_end = λ r. (reader_at s r).seen_end;
}

-- the number of moves of actor a
abbrev pub moves_by : ℕ → List Move → ℕ
moves_by a [] = 0
moves_by a (move ∷ moves) = bit (mover move == a) + moves_by a moves

-- the number of its stores
abbrev pub stores_by : ℕ → List Move → ℕ
stores_by a [] = 0
stores_by a (move ∷ moves) = (if mover move == a then bit (is_store (kind_of move)) else 0) + stores_by a moves

-- ---- the laws

-- In each state that actors going on lead to, each that has not finished can go on.
abbrev pub CanGoOn : Type 0
CanGoOn =
    (spec : RingSpec) (b : ℕ) (moves : List Move) (s : Ring) (w : Watch) → IsRing spec → 0 < b → GoesOnTo b (open_ring spec) open_watch moves s w
    → (a : ℕ) → a ≤ spec.readers → has_finished (ring_mark s) a ≡ false → (move : Move) × (mover move ≡ a) × (t : Ring) × LeadsTo s move t × GoingOn b s w move

-- In so many moves of its own actor a stores a word or finishes, whatever moves others make meanwhile.
abbrev pub MakesProgress : ℕ → Ring → Watch → ℕ → Type 0
MakesProgress b s w a =
    (later : List Move) (t : Ring) (v : Watch) → GoesOnTo b s w later t v → turns_to_progress b s.spec a ≤ moves_by a later
    → (0 < stores_by a later) ⊎ (has_finished (ring_mark t) a ≡ true)

-- As long as not all have finished, one that has not makes progress.
abbrev pub BatchesNeverStick : Type 0
BatchesNeverStick =
    (spec : RingSpec) (b : ℕ) (moves : List Move) (s : Ring) (w : Watch) → IsRing spec → 0 < b → GoesOnTo b (open_ring spec) open_watch moves s w
    → ¬ (AllFinished spec (ring_mark s)) → (a : ℕ) × (a ≤ spec.readers) × (has_finished (ring_mark s) a ≡ false) × MakesProgress b s w a

-- Rounds, one after another, lead from old to new.
abbrev pub RoundsLead : ℕ → Ring → Watch → List (List Move) → Ring → Watch → Type 0
RoundsLead b old w [] new v = (new ≡ old) × (v ≡ w)
RoundsLead b old w (round ∷ rounds) new v =
    (mid : Ring) × (u : Watch) × GoesOnTo b old w round mid u × IsRound b mid.spec (λ a. moves_by a round) (ring_mark mid) × RoundsLead b mid u rounds new v

-- After so many rounds, with the moves of each round in any order and with batches of every length up to b, all have
-- finished.
abbrev pub BatchesEndByRounds : Type 0
BatchesEndByRounds =
    (spec : RingSpec) (b : ℕ) (rounds : List (List Move)) (s : Ring) (w : Watch) → IsRing spec → 0 < b → RoundsLead b (open_ring spec) open_watch rounds s w
    → rounds_of spec ≤ length rounds → AllFinished spec (ring_mark s)
