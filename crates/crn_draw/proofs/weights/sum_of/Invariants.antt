use Rattle.std.proofs.Common.{◌≡◌, ◌≤◌, sum, take}
use Rattle.crn_draw.proofs.weights.sum_of.Given as goal

abbrev pub invariant-loop-weight : goal.invariant-loop-weight
invariant-loop-weight l = record { is : l.total ≡ sum (take l.weight-index l.weights); high : l.total ≤ 65536 }
