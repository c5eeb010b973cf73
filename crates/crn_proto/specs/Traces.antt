-- What a machine's answers have to do with the moves of a ring: they are those of a run, in which each move is made by the
-- actor whose turn it was, one block at a time.
use Rattle.std.specs.Prelude.{◌≡◌, ℕ, ◌<◌, ◌⊎◌, List, [], ◌∷◌, ◌++◌, Option, Some, None, slice_index, slice_index_or}
use Rattle.std.specs.List.{All}
use Rattle.crn_proto.specs.declared.spec.RingSpec.{RingSpec}
use Rattle.crn_proto.specs.declared.schedule.Actor.{Actor}
use Rattle.crn_proto.specs.declared.schedule.Actor.TheVariants.{Producer as ProducerActs, Finish as FinishActs, Reader as ReaderActs, Leave as LeaveActs}
use Rattle.crn_proto.specs.declared.schedule.Kind.{Kind}
use Rattle.crn_proto.specs.declared.schedule.Kind.TheVariants.{P1, P2, P3, R1, R2, R3}
use Rattle.crn_proto.specs.declared.schedule.Step.{Step as Answer}
use Rattle.crn_proto.specs.Ring.{IsRing, Ring, Reader, Move, ByProducer, ByReader, LoadGate, StoreWord, Publish, Finish, LoadCursor, LoadWord, Take, Leave, LeadsTo, Runs, producer_word, reader_word, open_ring, open_reader}
use Rattle.crn_proto.specs.Machine.{MachineState, IsActor, machine_after, machine_answers, open_machine, taker_at}

-- the kind of a move
abbrev pub kind_of : Move → Kind
kind_of (ByProducer (LoadGate r)) = P1
kind_of (ByProducer StoreWord) = P2
kind_of (ByProducer (Publish c)) = P3
kind_of (ByProducer Finish) = P3
kind_of (ByReader r LoadCursor) = R1
kind_of (ByReader r LoadWord) = R2
kind_of (ByReader r (Take c)) = R3
kind_of (ByReader r Leave) = R3

-- what reader r knows
abbrev pub reader_at : Ring → ℕ → Reader
reader_at s r = slice_index_or s.readers r (open_reader s.spec)

-- the word that a move loads or stores
abbrev pub word_of_move : Ring → Move → ℕ
word_of_move s (ByProducer m) = producer_word s.spec s.producer m
word_of_move s (ByReader r m) = reader_word s.spec r (reader_at s r) m

-- The move is a step of the actor: one block at a time.
abbrev pub IsMoveOf : Actor → Move → Type 0
IsMoveOf who (ByProducer (LoadGate r)) = who ≡ ProducerActs
IsMoveOf who (ByProducer StoreWord) = who ≡ ProducerActs
IsMoveOf who (ByProducer (Publish c)) = (who ≡ ProducerActs) × (c ≡ 1)
IsMoveOf who (ByProducer Finish) = (who ≡ ProducerActs) ⊎ (who ≡ FinishActs)
IsMoveOf who (ByReader r LoadCursor) = who ≡ ReaderActs r
IsMoveOf who (ByReader r LoadWord) = who ≡ ReaderActs r
IsMoveOf who (ByReader r (Take c)) = (who ≡ ReaderActs r) × (c ≡ 1)
IsMoveOf who (ByReader r Leave) = who ≡ LeaveActs r

-- The actor's answer is that of the moves made, of which there is one, or none where the answer is None:
-- the move's kind, its word, and what was loaded from that word or stored there.
abbrev pub IsAnswer : Actor → Ring → List Move → Option Answer → Ring → Type 0
IsAnswer who old made None new = (made ≡ []) × (new ≡ old)
IsAnswer who old made (Some answer) new =
    (move : Move) × (made ≡ move ∷ []) × IsMoveOf who move × LeadsTo old move new
    × (answer ≡ record { kind = kind_of move; word = word_of_move old move; value = slice_index new.words (word_of_move old move) })

-- The actors' answers are those of the moves, which lead from old to new.
abbrev pub Traces : List Actor → Ring → List Move → List (Option Answer) → Ring → Type 0
Traces [] old moves answers new = (moves ≡ []) × (answers ≡ []) × (new ≡ old)
Traces (who ∷ actors) old moves answers new =
    (made : List Move) × (later : List Move) × (moves ≡ made ++ later)
    × (answer : Option Answer) × (rest : List (Option Answer)) × (answers ≡ answer ∷ rest)
    × (mid : Ring) × IsAnswer who old made answer mid × Traces actors mid later rest new

-- the machine shows what the ring's state has
pub record Matches (m : MachineState) (s : Ring) : Type 0 where
  pub spec : m.spec ≡ s.spec
  pub words : m.words ≡ s.words
  pub published : m.published ≡ s.producer.published
  pub ended : m.ended ≡ s.producer.ended
  pub taken : (r : ℕ) → r < m.spec.readers → (taker_at m r).taken ≡ (reader_at s r).taken
  pub left : (r : ℕ) → r < m.spec.readers → (taker_at m r).left ≡ (reader_at s r).left
  pub seen_end : (r : ℕ) → r < m.spec.readers → (taker_at m r).seen_end ≡ (reader_at s r).seen_end

-- Whatever actors take turns, the machine's answers are those of a run of the ring, and it stands where the run leads to.
abbrev pub EveryReplayIsARun : Type 0
EveryReplayIsARun =
    (spec : RingSpec) (actors : List Actor) → IsRing spec → All (IsActor spec) actors
    → (moves : List Move) × (s : Ring) × Runs (open_ring spec) moves s
    × Traces actors (open_ring spec) moves (machine_answers (open_machine spec) actors) s
    × Matches (machine_after (open_machine spec) actors) s
