-- The laws of every schedule: of every list of moves, whatever actors take turns, with batches of every length, and with
-- gates remembered from any earlier load. A part of a run from its start is a run, so what is said of the state that a
-- run leads to holds at each of its moves.
use Rattle.std.specs.Prelude.{◌≡◌, ℕ, ◌-◌, ◌%◌, ◌<◌, ◌≤◌, false, List, take, drop, Some, slice_get}
use Rattle.std.specs.List.{Contains, concat}
use Rattle.crn_proto.specs.declared.spec.RingSpec.{RingSpec}
use Rattle.crn_proto.specs.Broadcast.{Unfolds}
use Rattle.crn_proto.specs.Ring.{IsRing, Reader, Ring, Move, ByProducer, ByReader, StoreWord, Publish, Finish, Take, LeadsTo, Runs, storing, open_ring, shows, events}
use Rattle.crn_proto.specs.Lawful.{Lawful, Apart, parts_of}

-- The events of a run are a run of the broadcast list, to the list that the state shows.
abbrev pub EveryRunShowsABroadcast : Type 0
EveryRunShowsABroadcast =
    (spec : RingSpec) (moves : List Move) (s : Ring) → IsRing spec → Runs (open_ring spec) moves s
    → Unfolds (shows (open_ring spec)) (events moves) (shows s)

-- The words and the parts of all actors are lawful, and no two parts are of one actor.
abbrev pub EveryRunIsLawful : Type 0
EveryRunIsLawful =
    (spec : RingSpec) (moves : List Move) (s : Ring) → IsRing spec → Runs (open_ring spec) moves s
    → Lawful spec s.words (parts_of s) × Apart (parts_of s)

-- The slot j has a block that the reader may still take.
abbrev pub IsUnread : Ring → Reader → ℕ → Type 0
IsUnread s q j = (q.left ≡ false) × (n : ℕ) × (n % s.spec.size ≡ j) × (q.taken ≤ n) × (n < s.producer.published)

-- A word is stored only into a slot that is unread by nobody.
abbrev pub NoUnreadSlotIsWritten : Type 0
NoUnreadSlotIsWritten =
    (spec : RingSpec) (moves : List Move) (s t : Ring) (r : ℕ) (q : Reader) → IsRing spec → Runs (open_ring spec) moves s
    → LeadsTo s (ByProducer StoreWord) t → slice_get s.readers r ≡ Some q → ¬ (IsUnread s q (storing s.producer % s.spec.size))

-- A reader that takes has read the very items that it takes.
abbrev pub WhatIsTakenWasRead : Type 0
WhatIsTakenWasRead =
    (spec : RingSpec) (moves : List Move) (s t : Ring) (r c : ℕ) (q : Reader) → IsRing spec → Runs (open_ring spec) moves s
    → LeadsTo s (ByReader r (Take c)) t → slice_get s.readers r ≡ Some q
    → q.read ≡ concat (take c (drop (q.taken - s.spec.id.first) (shows s).items))

-- After the end mark the ring cursor is not stored again.
abbrev pub NothingFollowsTheEnd : Type 0
NothingFollowsTheEnd =
    (spec : RingSpec) (moves : List Move) (s t : Ring) (c : ℕ) → IsRing spec → Runs (open_ring spec) moves s
    → Contains moves (ByProducer Finish) → (¬ (LeadsTo s (ByProducer (Publish c)) t)) × (¬ (LeadsTo s (ByProducer Finish) t))
