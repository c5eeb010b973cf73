use Rattle.std.proofs.Common.{◌≡◌, ◌+◌, false}
use Rattle.crn_stock.specs.Stock.{next_block}
use Rattle.crn_run.specs.Gates.{PassedUpTo}
use Rattle.crn_run.specs.Inner.Ends.{Advances}
use Rattle.crn_run.proofs.worker.apply_all.Given as goal

abbrev pub invariant-loop-k : goal.invariant-loop-k
invariant-loop-k g l = record {
  advances : Advances l.scenario.model l.rules l.scenario.key l.initial.state l.state;
  next : next_block l.state ≡ next_block l.initial.state + l.k;
  gate : g.G.Gate.refused l.gate ≡ false;
  passed : PassedUpTo g.G.Gate.asked l.policy (next_block l.initial.state) (next_block l.state) l.initial.gate l.gate;
}
