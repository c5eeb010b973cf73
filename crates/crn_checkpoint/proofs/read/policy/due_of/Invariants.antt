use Rattle.std.proofs.Common.{◌≡◌, ℕ, ◌+◌, ◌<◌, ◌^◌, List, All, length, take, drop}
use Rattle.crn_checkpoint.specs.CheckpointText.{due_rows}
use Rattle.crn_checkpoint.proofs.read.policy.due_of.Given as goal

abbrev pub invariant-loop-k : goal.invariant-loop-k
invariant-loop-k l = record {
  room : length l.due ≡ 32;
  reads : (amounts : List ℕ) → length amounts ≡ 32 → All (λ a. a < 2 ^ 32) amounts → l.rows ≡ due_rows l.period amounts
      → (l.rest ≡ due_rows (l.period + l.k) (drop l.k amounts)) × (take l.k l.due ≡ take l.k amounts);
}
