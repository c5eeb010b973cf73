use Rattle.std.proofs.Common.{◌≡◌, ◌++◌, drop, take, sum}
use Rattle.crn_draw.specs.Inner.Runs.{runs_from}
use Rattle.crn_draw.proofs.runs.runs_of.Given as goal

abbrev pub invariant-loop-i : goal.invariant-loop-i
invariant-loop-i l = record {
  before : l.runs.items ++ runs_from l.start (drop l.i l.values) (drop l.i l.weights) ≡ runs_from 0 l.values l.weights;
  start_is : l.start ≡ sum (take l.i l.weights);
}
