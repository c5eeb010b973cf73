-- A broadcast list, which knows no slots and no words: blocks numbered from `first` on, an end mark or none, and for each
-- reader the number of its next block, or None once it has left. No reader that is there falls more than `size` behind.
use Rattle.std.specs.Prelude.{◌≡◌, ℕ, ◌+◌, ◌<◌, ◌≤◌, Bool, true, false, List, [], ◌∷◌, ◌++◌, length, Option, Some, None, slice_get, slice_set}

-- The broadcast list: its first number, the size, the items, whether it is ended, and each reader's count.
pub record Broadcast : Type 0 where
  pub first : ℕ
  pub size : ℕ
  pub items : List (List ℕ)
  pub ended : Bool
  pub counts : List (Option ℕ)

-- so many blocks are published, the list is ended, a reader takes so many blocks, or leaves
pub data Event : Type 0 where
  Published : ℕ → Event
  Ended : Event
  Took : ℕ → ℕ → Event
  Left : ℕ → Event

-- the number of the next block
abbrev pub top : Broadcast → ℕ
top list = list.first + length list.items

-- The event may happen to the list old, which is then new.
abbrev pub Happens : Broadcast → Event → Broadcast → Type 0
-- c blocks are appended, for which every reader that has not left has room
Happens old (Published c) new =
    (blocks : List (List ℕ)) × (length blocks ≡ c) × (0 < c) × (old.ended ≡ false)
    × ((r count : ℕ) → slice_get old.counts r ≡ Some (Some count) → top old + c ≤ count + old.size)
    × (new ≡ record old { items = old.items ++ blocks })
-- there was no end mark yet
Happens old Ended new = (old.ended ≡ false) × (new ≡ record old { ended = true })
-- reader r takes c blocks, all published, from its count on
Happens old (Took r c) new =
    (count : ℕ) × (slice_get old.counts r ≡ Some (Some count)) × (0 < c) × (count + c ≤ top old)
    × (new ≡ record old { counts = slice_set old.counts r (Some (count + c)) })
-- reader r leaves
Happens old (Left r) new =
    (count : ℕ) × (slice_get old.counts r ≡ Some (Some count))
    × (new ≡ record old { counts = slice_set old.counts r None })

-- The events, one after another, lead from old to new.
abbrev pub Unfolds : Broadcast → List Event → Broadcast → Type 0
Unfolds old [] new = new ≡ old
Unfolds old (event ∷ events) new = (mid : Broadcast) × Happens old event mid × Unfolds mid events new
