use Rattle.std.proofs.Common.{◌≡◌, ℕ, ◌+◌, ◌%◌, ◌<◌, length, slice_index}
use Rattle.crn_stock.proofs.restore.due_from.Given as goal

abbrev pub invariant-loop-k : goal.invariant-loop-k
invariant-loop-k l = record {
  long : length l.due ≡ 32;
  filled : (j : ℕ) → j < l.k → slice_index l.due ((l.place + j) % 32) ≡ slice_index l.amounts j;
}
