-- The machine: which step each actor makes next, one block at a time.
use Rattle.std.specs.Prelude.{ℕ, ◌+◌, ◌*◌, ◌/◌, ◌<◌, ◌==◌, ◌||◌, nat_lt, not, Bool, true, false, if◌then◌else◌, List, [], ◌∷◌, replicate, Option, Some, None, slice_set, slice_index, slice_index_or}
use Rattle.crn_cipher.specs.declared.TheConstants.{BLOCK_WORDS}
use Rattle.crn_proto.specs.declared.spec.RingSpec.{RingSpec}
use Rattle.crn_proto.specs.declared.schedule.Actor.{Actor}
use Rattle.crn_proto.specs.declared.schedule.Actor.TheVariants.{Producer, Finish, Reader, Leave}
use Rattle.crn_proto.specs.declared.schedule.Kind.TheVariants.{P1, P2, P3, R1, R2, R3}
use Rattle.crn_proto.specs.declared.schedule.Step.{Step}
use Rattle.crn_proto.specs.declared.machine.Taker.{Taker}
use Rattle.crn_cipher.specs.Blocks.{block_word}
use Rattle.crn_proto.specs.Ring.{left_mark, place, open_words}

-- what a machine keeps: the ring's words, and where each actor stands
pub record MachineState : Type 0 where
  pub spec : RingSpec
  pub words : List ℕ
  pub published : ℕ
  pub ended : Bool
  -- the readers whose cursors have let the next block in, in order
  pub passed : ℕ
  -- the words of the next block that are stored
  pub stored : ℕ
  pub takers : List Taker

abbrev pub machine_of : RingSpec → List ℕ → ℕ → Bool → ℕ → ℕ → List Taker → MachineState
machine_of spec words published ended passed stored takers =
    record { spec = spec; words = words; published = published; ended = ended; passed = passed; stored = stored; takers = takers }

-- ---- before any step

-- where each reader stands
abbrev pub open_taker : RingSpec → Taker
open_taker spec = record { taken = spec.id.first; left = false; seen_end = false; reading = false; read = 0 }

-- the machine as a ring is opened
abbrev pub open_machine : RingSpec → MachineState
open_machine spec = record {
  spec = spec;
  words = open_words spec;
  published = spec.id.first;
  ended = false;
  passed = 0;
  stored = 0;
  takers = replicate spec.readers (open_taker spec);
}

-- ---- one step

-- a state, and the step that led to it or None
abbrev pub Outcome : Type 0
Outcome = MachineState × Option Step

-- the producer stores the end mark
abbrev pub ends : MachineState → Outcome
ends m = (
  record m { words = slice_set m.words 0 (2 * m.published + 1); ended = true },
  Some (record { kind = P3; word = 0; value = 2 * m.published + 1 }),
)

-- The producer loads the cursor of the next reader. One that has left, or leaves room for the next block, is passed;
-- at one that doesn't it begins with the first reader again.
abbrev pub loads_gate : MachineState → Outcome
loads_gate m =
    let count = slice_index m.words (1 + m.passed) in (
      record m { passed = if (count == left_mark) || nat_lt m.published (count + m.spec.size) then m.passed + 1 else 0 },
      Some (record { kind = P1; word = 1 + m.passed; value = count }),
    )

-- the producer stores the next word of the next block
abbrev pub stores_word : MachineState → Outcome
stores_word m =
    let i = place m.spec m.published m.stored in
    let word = block_word m.spec.id.key m.published m.stored in
    (record m { words = slice_set m.words i word; stored = m.stored + 1 }, Some (record { kind = P2; word = i; value = word }))

-- the producer publishes the block
abbrev pub publishes : MachineState → Outcome
publishes m = (
  record m { words = slice_set m.words 0 (2 * (m.published + 1)); published = m.published + 1; passed = 0; stored = 0 },
  Some (record { kind = P3; word = 0; value = 2 * (m.published + 1) }),
)

-- the producer's next step
unfoldable pub producer_steps : MachineState → Outcome
producer_steps m =
    if m.ended then (m, None)
    else if m.published == m.spec.id.total then ends m
    else if nat_lt m.passed m.spec.readers then loads_gate m
    else if nat_lt m.stored BLOCK_WORDS then stores_word m
    else publishes m

-- the end mark, only where no cursor has let the next block in and no word of it is stored
unfoldable pub finish_steps : MachineState → Outcome
finish_steps m = if m.ended || (not (m.passed == 0)) || (not (m.stored == 0)) then (m, None) else ends m

-- where reader r stands
abbrev pub taker_at : MachineState → ℕ → Taker
taker_at m r = slice_index_or m.takers r (open_taker m.spec)

-- reader r looks how far blocks are published, and begins to read where there is one that it has not taken
abbrev pub loads_cursor : MachineState → ℕ → Outcome
loads_cursor m r =
    let t = taker_at m r in
    let value = slice_index m.words 0 in (
      record m { takers = slice_set m.takers r (record t { seen_end = value == 2 * t.taken + 1; reading = nat_lt t.taken (value / 2) }) },
      Some (record { kind = R1; word = 0; value = value }),
    )

-- reader r reads the next word of its block
abbrev pub loads_word : MachineState → ℕ → Outcome
loads_word m r =
    let t = taker_at m r in
    let i = place m.spec t.taken t.read in
    (record m { takers = slice_set m.takers r (record t { read = t.read + 1 }) }, Some (record { kind = R2; word = i; value = slice_index m.words i }))

-- reader r takes the block
abbrev pub takes : MachineState → ℕ → Outcome
takes m r =
    let t = taker_at m r in (
      record m { words = slice_set m.words (1 + r) (t.taken + 1); takers = slice_set m.takers r (record t { taken = t.taken + 1; reading = false; read = 0 }) },
      Some (record { kind = R3; word = 1 + r; value = t.taken + 1 }),
    )

-- reader r leaves
abbrev pub leaves : MachineState → ℕ → Outcome
leaves m r =
    let t = taker_at m r in (
      record m { words = slice_set m.words (1 + r) left_mark; takers = slice_set m.takers r (record t { left = true }) },
      Some (record { kind = R3; word = 1 + r; value = left_mark }),
    )

-- the next step of reader r
unfoldable pub reader_steps : MachineState → ℕ → Outcome
reader_steps m r =
    let t = taker_at m r in
    if t.left || t.seen_end then (m, None)
    else if not t.reading then loads_cursor m r
    else if nat_lt t.read BLOCK_WORDS then loads_word m r
    else takes m r

-- reader r leaves, only where it is between two blocks
unfoldable pub leave_steps : MachineState → ℕ → Outcome
leave_steps m r =
    let t = taker_at m r in
    if t.left || t.reading then (m, None) else leaves m r

-- the next step of an actor
abbrev pub machine_steps : MachineState → Actor → Outcome
machine_steps m Producer = producer_steps m
machine_steps m Finish = finish_steps m
machine_steps m (Reader r) = reader_steps m r
machine_steps m (Leave r) = leave_steps m r

-- the actor is one of the ring's
abbrev pub IsActor : RingSpec → Actor → Type 0
IsActor spec Producer = Unit {0}
IsActor spec Finish = Unit {0}
IsActor spec (Reader r) = r < spec.readers
IsActor spec (Leave r) = r < spec.readers

-- ---- a schedule

-- the machine after the actors' steps in turn
abbrev pub machine_after : MachineState → List Actor → MachineState
machine_after m [] = m
machine_after m (who ∷ actors) = machine_after (machine_steps m who).0 actors

-- the steps that they took, or None
abbrev pub machine_answers : MachineState → List Actor → List (Option Step)
machine_answers m [] = []
machine_answers m (who ∷ actors) = (machine_steps m who).1 ∷ machine_answers (machine_steps m who).0 actors
