use Rattle.std.proofs.Common.{◌≡◌, ◌<◌, ◌^◌, All, take}
use Rattle.crn_checkpoint.proofs.read.cells.narrowed.Given as goal

abbrev pub invariant-loop-number : goal.invariant-loop-number
invariant-loop-number l = All (λ x. x < 2 ^ 32) l.numbers → l.narrow.items ≡ take l.number-index l.numbers
