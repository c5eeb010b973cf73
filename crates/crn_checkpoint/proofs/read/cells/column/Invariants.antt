use Rattle.std.proofs.Common.{◌≡◌, ℕ, ◌<◌, ◌^◌, [], List, All, decimal, get_or, map, take}
use Rattle.crn_checkpoint.proofs.read.cells.column.Given as goal

abbrev pub invariant-loop-row : goal.invariant-loop-row
invariant-loop-row l = (xs : List ℕ) → All (λ x. x < 2 ^ 64) xs → map (λ (r : List (List ℕ)). get_or r l.place []) l.rows ≡ map decimal xs → l.found.items ≡ take l.row-index xs
