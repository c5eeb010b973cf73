-- What the producer's gates come to.
use Rattle.std.specs.Prelude.{◌≡◌, ℕ, ◌<◌, ◌≤◌, ◌⊎◌, List, slice_index}
use Rattle.crn_proto.specs.Ring.{left_mark}

-- least is the least of the first k gates, where the mark of a reader that left is above all counts
pub record LeastOf (k : ℕ) (gates : List ℕ) (least : ℕ) : Type 0 where
  pub low : (r : ℕ) → r < k → least ≤ slice_index gates r
  pub high : least ≤ left_mark
  pub met : (least ≡ left_mark) ⊎ ((r : ℕ) × (r < k) × (slice_index gates r ≡ least))
