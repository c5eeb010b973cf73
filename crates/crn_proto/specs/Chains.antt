-- Moves of one actor, one after another, each with the value that it found in its word.
use Rattle.std.specs.Prelude.{◌≡◌, ℕ, ◌≤◌, List, [], ◌∷◌, length}
use Rattle.crn_proto.specs.declared.spec.RingSpec.{RingSpec}
use Rattle.crn_proto.specs.Ring.{Producer, Reader, ProducerMay, ReaderMay, producer_after, reader_after}

module _ {P M : Type 0} (May : P → M → Type 0) (after : P → M → ℕ → P) where
  -- these moves lead from the first part to the last
  abbrev pub Chain : P → List (M × ℕ) → P → Type 0
  Chain p [] q = q ≡ p
  Chain p (x ∷ xs) q = May p x.0 × Chain (after p x.0 x.1) xs q

  -- at most so many moves lead from the first part to the last
  abbrev pub Reaches : P → ℕ → P → Type 0
  Reaches p most q = (xs : List (M × ℕ)) × Chain p xs q × (length xs ≤ most)

-- at most so many moves of the producer, and of a reader
abbrev pub ProducerReaches : RingSpec → Producer → ℕ → Producer → Type 0
ProducerReaches spec = Reaches (ProducerMay spec) producer_after

-- A reader's part becomes another by at most so many of its moves.
abbrev pub ReaderReaches : Reader → ℕ → Reader → Type 0
ReaderReaches = Reaches ReaderMay reader_after
