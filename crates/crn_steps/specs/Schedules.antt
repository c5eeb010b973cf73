-- Every schedule of the running ring: the steps that the table of a ring makes, one at a time, whatever seats make them.
use Rattle.std.specs.Prelude.{◌≡◌, ℕ, ◌-◌, ◌*◌, ◌<◌, ◌≤◌, ◌^◌, List, [], ◌∷◌, ◌++◌, length, Some, slice_get, slice_index, slice_set}
use Rattle.std.specs.List.{flat_map}
use mathlib.Core.Option.{some, none}
use lib.ListN.{get_elem?}
use Rattle.atomic_table.specs.Table.{State, Step, Act, Allows, Splits, Valid, carried_after, opening, step, stepped}
use Rattle.crn_cipher.specs.declared.TheConstants.{BLOCK_WORDS}
use Rattle.crn_proto.specs.declared.spec.RingSpec.{RingSpec}
use Rattle.crn_proto.specs.Ring.{IsRing, Ring, Move, ByProducer, ByReader, LoadGate, StoreWord, Finish, LoadCursor, LoadWord, Leave, Runs, open_ring, open_words, shows, events}
use Rattle.crn_proto.specs.Broadcast.{Unfolds}
use Rattle.crn_proto.specs.Batches.{Watch, open_watch, GoesOnTo}
use Rattle.crn_proto.specs.declared.actor_parts.Part.{Part}
use Rattle.crn_proto.specs.declared.actor_parts.Part.TheVariants.{OfProducer, OfReader}
use Rattle.crn_steps.specs.declared.view.Role.TheVariants.{Producer}
use Rattle.crn_steps.specs.declared.view.View.{View}
use Rattle.crn_steps.specs.Holds.{Holds, opened, parts_of_view}
use Rattle.crn_steps.specs.Plays.{Sat, publishing, taking, loaded_gate, stored_word, published_some, stored_end, loaded_cursor, loaded_word, stored_taken, stored_left, cut_left, cut_right}

-- the state of a ring's table: its words and its seats' views
abbrev pub TableState : Type 0
TableState = State (Unit {0}) View

-- the table as a ring is opened, with its first seat
abbrev pub opened_table : RingSpec → TableState
opened_table spec = opening (open_words spec) [] (opened spec 0)

-- A table with the first seat of a ring meets the rule with the words of the open ring alone, slots included.
abbrev pub OpensAsTheOpenRing : Type 0
OpensAsTheOpenRing = (spec : RingSpec) (words : List ℕ) → Holds spec (opening words [] (opened spec 0)) → words ≡ open_words spec

-- the eight kinds of step on a word
pub data StepKind : Type 0 where
  LoadsGate : StepKind
  StoresWord : StepKind
  Publishes : StepKind
  StoresEnd : StepKind
  LoadsCursor : StepKind
  LoadsWord : StepKind
  StoresTaken : StepKind
  StoresLeft : StepKind

-- what a step of a kind tells its seat
abbrev pub tells : StepKind → Step (Unit {0}) → Sat → ℕ → Sat → Type 0
tells LoadsGate = loaded_gate
tells StoresWord = stored_word
tells Publishes = published_some
tells StoresEnd = stored_end
tells LoadsCursor = loaded_cursor
tells LoadsWord = loaded_word
tells StoresTaken = stored_taken
tells StoresLeft = stored_left

-- what a word becomes in which a step has `found` a value, where a store's value is x
abbrev pub becomes : StepKind → ℕ → ℕ → ℕ
becomes LoadsGate x found = found
becomes StoresWord x found = x
becomes Publishes x found = x
becomes StoresEnd x found = x
becomes LoadsCursor x found = found
becomes LoadsWord x found = found
becomes StoresTaken x found = x
becomes StoresLeft x found = x

-- A step on word i by the seat `id`, whose view is v and whose slots are `carried`; a store's value is x.
pub record OnWord : Type 0 where
  pub kind : StepKind
  pub id : ℕ
  pub view : View
  pub carried : List (ℕ × Unit {0})
  pub i : ℕ
  pub x : ℕ

-- A step on a word, or the cut of a reader's seat off the seat `id`, whose view is v.
pub data TableStep : Type 0 where
  Made : OnWord → TableStep
  Cut : ℕ → View → TableStep

-- the step is told this, where it found that value
abbrev pub told : OnWord → ℕ → Sat → Type 0
told o found = tells o.kind (step 0 o.i o.x 0 none) (o.view, o.carried) (becomes o.kind o.x found)

-- The rule allows the step, as a table asks of each.
abbrev pub IsAllowed : RingSpec → OnWord → Type 0
IsAllowed spec o = Allows (Holds spec) 0 o.id (o.view, o.carried) o.i (becomes o.kind o.x) (told o)

-- The seat picks a view and an act that keep the rule, and the table is then as the step leaves it.
pub record Picks (spec : RingSpec) (s : TableState) (o : OnWord) (s' : TableState) : Type 0 where
  pub at : get_elem? s.views o.id ≡ some o.view
  pub view : View
  pub act : Act (Unit {0})
  pub valid : Valid s.homes o.carried act
  pub after : s' ≡ stepped s o.i (becomes o.kind o.x (slice_index s.words o.i)) o.id o.carried view act
  pub keeps : Holds spec s'
  pub told : told o (slice_index s.words o.i) (view, carried_after o.carried act)

-- A reader that waits in the producer's seat gets a seat of its own.
pub record Cuts (spec : RingSpec) (s : TableState) (id : ℕ) (v : View) (s' : TableState) : Type 0 where
  pub at : get_elem? s.views id ≡ some v
  pub role : v.role ≡ Producer
  pub waits : v.number < v.spec.readers
  pub after : s' ≡ record { words = s.words; homes = s.homes; views = slice_set s.views id (cut_left v) ++ cut_right v ∷ [] }
  pub keeps : Holds spec s'

-- The step leads from one state of the table to the other.
abbrev pub Makes : RingSpec → TableState → TableStep → TableState → Type 0
Makes spec s (Made o) s' = Picks spec s o s'
Makes spec s (Cut id v) s' = Cuts spec s id v s'

-- The steps, one after another, lead from s to s'.
abbrev pub MakesAll : RingSpec → TableState → List TableStep → TableState → Type 0
MakesAll spec s [] s' = s' ≡ s
MakesAll spec s (x ∷ xs) s' = (mid : TableState) × Makes spec s x mid × MakesAll spec mid xs s'

-- the move of the ring that a step is
abbrev pub move_as : StepKind → View → ℕ → Move
move_as LoadsGate v i = ByProducer (LoadGate (i - 1))
move_as StoresWord v i = ByProducer StoreWord
move_as Publishes v i = ByProducer (publishing v)
move_as StoresEnd v i = ByProducer Finish
move_as LoadsCursor v i = ByReader v.number LoadCursor
move_as LoadsWord v i = ByReader v.number LoadWord
move_as StoresTaken v i = ByReader v.number (taking v)
move_as StoresLeft v i = ByReader v.number Leave

-- the moves of steps, in their order; the cut of a seat is none
abbrev pub moves_of : List TableStep → List Move
moves_of [] = []
moves_of (Made o ∷ steps) = move_as o.kind o.view o.i ∷ moves_of steps
moves_of (Cut id v ∷ steps) = moves_of steps

-- the part is the ring's
abbrev pub IsPartOf : Ring → Part → Type 0
IsPartOf ring (OfProducer p) = ring.producer ≡ p
IsPartOf ring (OfReader r q) = slice_get ring.readers r ≡ Some q

-- The table has the ring's words, and each part in a view of its is the ring's.
pub record Shows (spec : RingSpec) (s : TableState) (ring : Ring) : Type 0 where
  pub words : s.words ≡ ring.words
  pub spec_of : ring.spec ≡ spec
  pub parts : (k : ℕ) (part : Part) → slice_get (flat_map parts_of_view s.views) k ≡ Some part → IsPartOf ring part

-- A run of the ring by these moves that leads to what the table is, and the broadcast list that it shows.
pub record IsRunTo (spec : RingSpec) (moves : List Move) (s : TableState) : Type 0 where
  pub ring : Ring
  pub run : Runs (open_ring spec) moves ring
  pub shown : Shows spec s ring
  pub broadcast : Unfolds (shows (open_ring spec)) (events moves) (shows ring)

-- The steps of a table since the ring was opened are a run of the ring, each the move of its kind.
abbrev pub StepsAreARun : Type 0
StepsAreARun = (spec : RingSpec) (steps : List TableStep) (s : TableState) → IsRing spec → MakesAll spec (opened_table spec) steps s → IsRunTo spec (moves_of steps) s

-- The rule holds as a ring is opened, and each step or cut that a table allows can be made.
abbrev pub AllowedStepsAreMade : Type 0
AllowedStepsAreMade =
    ((spec : RingSpec) → IsRing spec → Holds spec (opened_table spec))
    × ((spec : RingSpec) (s : TableState) (o : OnWord) → Holds spec s → length s.homes ≡ 0 → get_elem? s.views o.id ≡ some o.view → slice_index s.words o.i < 2 ^ 64 → IsAllowed spec o → (s' : TableState) × Picks spec s o s')
    × ((spec : RingSpec) (s : TableState) (id : ℕ) (v : View) → Holds spec s → get_elem? s.views id ≡ some v → v.role ≡ Producer → v.number < v.spec.readers
    → Splits (Holds spec) id v (cut_left v) (cut_right v) → (s' : TableState) × Cuts spec s id v s')

-- ---- actors that go on

-- The step's batch has at most b blocks.
abbrev pub IsInBatch : ℕ → StepKind → View → Type 0
IsInBatch b LoadsGate v = Unit {0}
IsInBatch b StoresWord v = v.producer.stored < BLOCK_WORDS * b
IsInBatch b Publishes v = Unit {0}
IsInBatch b StoresEnd v = Unit {0}
IsInBatch b LoadsCursor v = Unit {0}
IsInBatch b LoadsWord v = length v.reader.read < BLOCK_WORDS * b
IsInBatch b StoresTaken v = Unit {0}
IsInBatch b StoresLeft v = Unit {0}

-- Each step's batch has.
abbrev pub AreInBatches : ℕ → List TableStep → Type 0
AreInBatches b [] = Unit {0}
AreInBatches b (Made o ∷ steps) = IsInBatch b o.kind o.view × AreInBatches b steps
AreInBatches b (Cut id v ∷ steps) = AreInBatches b steps

-- Actors that go on lead to what the table is in s, and on to t.
pub record GoOn (spec : RingSpec) (b : ℕ) (moves later : List Move) (s t : TableState) : Type 0 where
  pub ring : Ring
  pub watch : Watch
  pub goes_on : GoesOnTo b (open_ring spec) open_watch moves ring watch
  pub shown : Shows spec s ring
  pub last : Ring
  pub last_watch : Watch
  pub goes_further : GoesOnTo b ring watch later last last_watch
  pub last_shown : Shows spec t last

-- They, and later steps, are moves of actors that go on.
abbrev pub StepsGoOn : Type 0
StepsGoOn =
    (spec : RingSpec) (b : ℕ) (steps later : List TableStep) (s t : TableState) → IsRing spec → MakesAll spec (opened_table spec) steps s → MakesAll spec s later t
    → AreInBatches b steps → AreInBatches b later → GoOn spec b (moves_of steps) (moves_of later) s t

-- No batch has more blocks than the stream.
abbrev pub BatchesAreBounded : Type 0
BatchesAreBounded =
    (spec : RingSpec) (b : ℕ) (steps : List TableStep) (s : TableState) → IsRing spec → MakesAll spec (opened_table spec) steps s → spec.id.total ≤ b → AreInBatches b steps
