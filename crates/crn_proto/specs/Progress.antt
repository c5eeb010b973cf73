-- Progress of a machine's ring: that it cannot stick, and when it ends, whatever actors take turns. Actors are numbered by
-- the cursors that they own: actor 0 is the producer, actor 1 + r is reader r. A turn is a step of the machine by an actor,
-- or no step if it has none. `Batches` says the same of runs, and takes from here what it means to have finished, and the
-- numbers.
use Rattle.std.specs.Prelude.{◌≡◌, ℕ, zero, suc, ◌+◌, ◌-◌, ◌*◌, ◌<◌, ◌≤◌, ◌==◌, ◌||◌, ◌&&◌, ◌⊎◌, not, cond, Bool, true, false, List, [], ◌∷◌, length, Option, Some, None}
use Rattle.std.specs.List.{All}
use Rattle.crn_cipher.specs.declared.TheConstants.{BLOCK_WORDS}
use Rattle.crn_proto.specs.declared.spec.RingSpec.{RingSpec}
use Rattle.crn_proto.specs.declared.schedule.Actor.{Actor}
use Rattle.crn_proto.specs.declared.schedule.Actor.TheVariants.{Producer, Finish, Reader, Leave}
use Rattle.crn_proto.specs.declared.schedule.Kind.{Kind}
use Rattle.crn_proto.specs.declared.schedule.Kind.TheVariants.{P1, P2, P3, R1, R2, R3}
use Rattle.crn_proto.specs.declared.schedule.Step.{Step}
use Rattle.crn_proto.specs.Ring.{IsRing, Ring, Move, Runs, open_ring, bit}
use Rattle.crn_proto.specs.Machine.{MachineState, Outcome, IsActor, machine_steps, machine_after, open_machine, taker_at}
use Rattle.crn_proto.specs.Traces.{kind_of}

-- ---- what progress is

-- the actor whose turn it is
abbrev pub owner : Actor → ℕ
owner Producer = 0
owner Finish = 0
owner (Reader r) = suc r
owner (Leave r) = suc r

-- how far each actor is
pub record Mark : Type 0 where
  -- the blocks that are published, and whether the end is marked
  pub published : ℕ
  pub ended : Bool
  -- the blocks that each reader has taken, and whether it has left, or has seen the end mark
  pub taken : ℕ → ℕ
  pub left : ℕ → Bool
  pub seen_end : ℕ → Bool

-- how far the actors of a machine are
abbrev pub machine_mark : MachineState → Mark
machine_mark m = record {
  published = m.published;
  ended = m.ended;
  taken = λ r. (taker_at m r).taken;
  left = λ r. (taker_at m r).left;
  seen_end = λ r. (taker_at m r).seen_end;
}

-- whether an actor has finished: the producer has marked the end, and a reader has left or has seen the end mark
abbrev pub has_finished : Mark → ℕ → Bool
has_finished x zero = x.ended
has_finished x (suc r) = x.left r || x.seen_end r

-- the end is marked, and each reader has left or has seen it
abbrev pub AllFinished : RingSpec → Mark → Type 0
AllFinished spec x = (a : ℕ) → a ≤ spec.readers → has_finished x a ≡ true

-- whether a step of this kind is a store: of a block's word, of the ring cursor, or of a reader's cursor
abbrev pub is_store : Kind → Bool
is_store P1 = false
is_store P2 = true
is_store P3 = true
is_store R1 = false
is_store R2 = false
is_store R3 = true

-- whether a turn stored a word; a turn without a step did not
abbrev pub has_stored : Option Step → Bool
has_stored None = false
has_stored (Some step) = is_store step.kind

-- A turn of actor a is progress if it stored a word, or if the actor has finished by it: a reader has seen the end mark.
-- A look that shows nothing new is none.
abbrev pub is_progress : MachineState → ℕ → Outcome → Bool
is_progress m a out = has_stored out.1 || (not (has_finished (machine_mark m) a) && has_finished (machine_mark out.0) a)

-- whether the next turn is progress
abbrev pub makes_progress : MachineState → Actor → Bool
makes_progress m who = is_progress m (owner who) (machine_steps m who)

-- the number of turns of a schedule that are progress
abbrev pub progress : MachineState → List Actor → ℕ
progress m [] = 0
progress m (who ∷ actors) = bit (makes_progress m who) + progress (machine_steps m who).0 actors

-- the number of those that are turns of actor a
abbrev pub progress_of : ℕ → MachineState → List Actor → ℕ
progress_of a m [] = 0
progress_of a m (who ∷ actors) = bit ((owner who == a) && makes_progress m who) + progress_of a (machine_steps m who).0 actors

-- whether it is a turn of actor a on its way to the next block; a turn to end early, or to leave, is not
abbrev pub is_turn_of : ℕ → Actor → Bool
is_turn_of a Producer = 0 == a
is_turn_of a Finish = false
is_turn_of a (Reader r) = suc r == a
is_turn_of a (Leave r) = false

-- the number of these turns of actor a in a schedule
abbrev pub turns_of : ℕ → List Actor → ℕ
turns_of a [] = 0
turns_of a (who ∷ actors) = bit (is_turn_of a who) + turns_of a actors

-- the number of stores among moves
abbrev pub stores_in : List Move → ℕ
stores_in [] = 0
stores_in (move ∷ moves) = bit (is_store (kind_of move)) + stores_in moves

-- ---- the law's numbers

-- the blocks to publish
abbrev pub blocks_of : RingSpec → ℕ
blocks_of spec = spec.id.total - spec.id.first

-- the most stores: the words of each block, one to publish each block, and the end mark; each reader takes each block, and
-- leaves
abbrev pub store_limit : RingSpec → ℕ
store_limit spec = (BLOCK_WORDS + 1) * blocks_of spec + 1 + spec.readers * (blocks_of spec + 1)

-- the most turns of a schedule that are progress: these stores, and each reader sees the end
abbrev pub progress_limit : RingSpec → ℕ
progress_limit spec = store_limit spec + spec.readers

-- The turns in which an actor makes progress, with batches of at most b blocks: the producer loads each reader's cursor
-- before it stores; a reader loads the ring cursor and the words of b blocks before it stores its count. A machine takes one
-- block at a time.
abbrev pub turns_to_progress : ℕ → RingSpec → ℕ → ℕ
turns_to_progress b spec zero = spec.readers + 1
turns_to_progress b spec (suc r) = BLOCK_WORDS * b + 2

-- the turns of an actor in a round: enough to publish a batch, and to take one
abbrev pub turns_a_round : ℕ → RingSpec → ℕ → ℕ
turns_a_round b spec zero = spec.readers + BLOCK_WORDS * b + 1
turns_a_round b spec (suc r) = BLOCK_WORDS * b + 2

-- In a round each actor a has its turns, in any order, unless it has finished by the end of the round.
abbrev pub IsRound : ℕ → RingSpec → (ℕ → ℕ) → Mark → Type 0
IsRound b spec turns x = (a : ℕ) → a ≤ spec.readers → (has_finished x a ≡ true) ⊎ (turns_a_round b spec a ≤ turns a)

-- The rounds after which all have finished: one to publish each block, one to take the last block and mark the end, and one
-- to see the end. On one slot the producer waits a round for the readers between two blocks.
abbrev pub rounds_of : RingSpec → ℕ
rounds_of spec = blocks_of spec + 2 + cond (spec.size == 1) (blocks_of spec - 1) 0

-- ---- the laws

-- A run has at most so many stores, with batches of every length: a batch is published, and taken, by one.
abbrev pub StoresAreBounded : Type 0
StoresAreBounded = (spec : RingSpec) (moves : List Move) (s : Ring) → IsRing spec → Runs (open_ring spec) moves s → stores_in moves ≤ store_limit spec

-- At most so many turns of a schedule are progress.
abbrev pub ProgressIsBounded : Type 0
ProgressIsBounded =
    (spec : RingSpec) (actors : List Actor) → IsRing spec → All (IsActor spec) actors
    → progress (open_machine spec) actors ≤ progress_limit spec

-- Actor a makes progress in so many turns of its own, whatever turns others take meanwhile.
abbrev pub TurnsMakeProgress : RingSpec → MachineState → ℕ → Type 0
TurnsMakeProgress spec m a = (later : List Actor) → All (IsActor spec) later → turns_to_progress 1 spec a ≤ turns_of a later → 0 < progress_of a m later

-- After each schedule, as long as not all have finished, one that has not makes progress.
abbrev pub NeverStuck : Type 0
NeverStuck =
    (spec : RingSpec) (actors : List Actor) → IsRing spec → All (IsActor spec) actors
    → let m = machine_after (open_machine spec) actors in
    ¬ (AllFinished spec (machine_mark m)) → (a : ℕ) × (a ≤ spec.readers) × (has_finished (machine_mark m) a ≡ false) × TurnsMakeProgress spec m a

-- the machine after rounds, one after another
abbrev pub after_rounds : MachineState → List (List Actor) → MachineState
after_rounds m [] = m
after_rounds m (round ∷ rounds) = after_rounds (machine_after m round) rounds

-- each is a round from where those before have led to
abbrev pub AreRounds : RingSpec → MachineState → List (List Actor) → Type 0
AreRounds spec m [] = Unit {0}
AreRounds spec m (round ∷ rounds) =
    IsRound 1 spec (λ a. turns_of a round) (machine_mark (machine_after m round)) × AreRounds spec (machine_after m round) rounds

-- After so many rounds all have finished.
abbrev pub EndsByRounds : Type 0
EndsByRounds =
    (spec : RingSpec) (rounds : List (List Actor)) → IsRing spec → All (All (IsActor spec)) rounds → AreRounds spec (open_machine spec) rounds
    → rounds_of spec ≤ length rounds → AllFinished spec (machine_mark (after_rounds (open_machine spec) rounds))
