-- How many blocks a reader's look at its ring has taken.
use Rattle.std.specs.Prelude.{ℕ}
use Rattle.crn_ring.specs.declared.answers.Batch.{Batch}
use Rattle.crn_ring.specs.declared.answers.Batch.TheVariants.{Got, Empty, Ended}

abbrev pub taken_in : Batch → ℕ
taken_in (Got count) = count
taken_in (Empty published) = 0
taken_in (Ended published) = 0
