use Rattle.crn_stock.specs.Stock.{OnwardAt}
use Rattle.crn_sequential.specs.Runs.{StandsBefore}
use Rattle.crn_sequential.proofs.plain.run_policy_plain.Given as goal

abbrev pub invariant-loop-number : goal.invariant-loop-number
invariant-loop-number l = record {
  stands : StandsBefore l.scenario.model l.number l.state;
  onward : OnwardAt l.scenario.model l.policy l.scenario.key l.from l.number l.state;
}
