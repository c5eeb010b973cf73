-- What a seat's view is after many steps of one kind.
use Rattle.std.specs.Prelude.{◌≡◌, ℕ, ◌+◌, ◌<◌, ◌≤◌, List, ◌++◌, length, slice_index}
use Rattle.crn_steps.specs.declared.view.View.{View}
use Rattle.crn_ring.specs.Gates.{Passes, Loaded}

-- the views after many stores, and after many loads, of words
abbrev pub wrote_many : ℕ → View → View
wrote_many k v = record v { producer = record v.producer { stored = v.producer.stored + k; steps = v.producer.steps + k } }

abbrev pub read_many : List ℕ → View → View
read_many ns v = record v { reader = record v.reader { read = v.reader.read ++ ns; steps = v.reader.steps + length ns } }

-- the gates of the readers below r were loaded, in order, and have room for block n, so the producer has passed them; the
-- gates above are as they were
pub record Gauged (size n r : ℕ) (v v' : View) : Type 0 where
  pub same : v' ≡ record v { producer = record v.producer { gates = v'.producer.gates; loads = v'.producer.loads; steps = v.producer.steps + r }; passed = v.passed + r }
  pub loaded : Loaded r v.producer v'.producer
  pub passed : (q : ℕ) → q < r → Passes size n (slice_index v'.producer.gates q)
  pub kept : (q : ℕ) → r ≤ q → slice_index v'.producer.gates q ≡ slice_index v.producer.gates q
