use Rattle.crn_pair.specs.Pairs.{signed, differences}
use Rattle.crn_pair.proofs.Gathering.{Gathers}
use Rattle.crn_pair.proofs.pair.Sums.of.Given as goal

abbrev pub invariant-loop-i : goal.invariant-loop-i
invariant-loop-i l = record {
  differences : Gathers (differences l.fn.a l.fn.b) (differences l.fn.a l.fn.b) l.i l.differences;
  costs : Gathers (signed l.fn.a) (signed l.fn.b) l.i l.costs;
}
