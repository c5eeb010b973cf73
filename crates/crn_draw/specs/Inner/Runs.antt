-- The spread-out list by its runs of equal values, each with the place at which it begins.
use Rattle.std.specs.Prelude.{◌≡◌, ℕ, zero, suc, ◌+◌, ◌<◌, ◌≤◌, List, [], ◌∷◌, length, slice_index_or}
use Rattle.crn_draw.specs.declared.runs.Run.{Run}

-- the run of each value whose weight is above 0, where the first begins at n
abbrev pub runs_from : ℕ → List ℕ → List ℕ → List Run
runs_from n [] ws = []
runs_from n (v ∷ vs) [] = []
runs_from n (v ∷ vs) (zero ∷ ws) = runs_from n vs ws
runs_from n (v ∷ vs) (suc w ∷ ws) = record { start = n; value = v } ∷ runs_from (n + suc w) vs ws

-- what stands past the end of a list of runs
abbrev pub no_run : Run
no_run = record { start = 0; value = 0 }

-- the place at which the run at an index begins
abbrev pub start_at : List Run → ℕ → ℕ
start_at runs i = (slice_index_or runs i no_run).start

-- no run begins before an earlier one
abbrev pub StartsRise : List Run → Type 0
StartsRise runs = (i j : ℕ) → i ≤ j → j < length runs → start_at runs i ≤ start_at runs j

-- the value stands at a place: its run begins there or before, and the next run after
pub record StandsAtPlace (runs : List Run) (place value : ℕ) : Type 0 where
  pub index : ℕ
  pub inside : index < length runs
  pub begun : start_at runs index ≤ place
  pub next : index + 1 < length runs → place < start_at runs (index + 1)
  pub value_is : value ≡ (slice_index_or runs index no_run).value

-- each place from `low` to `high` lies in one of the runs from `first` to `last`
pub record IsBracket (runs : List Run) (low high first last : ℕ) : Type 0 where
  pub ordered : first ≤ last
  pub inside : last < length runs
  pub begun : start_at runs first ≤ low
  pub next : (j : ℕ) → last < j → j < length runs → high < start_at runs j
