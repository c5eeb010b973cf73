use Rattle.crn_stock.specs.Models.{has_returns}
use Rattle.crn_stock.specs.Inner.Steps.{drawn_from}
use Rattle.crn_lanes.specs.Inner.Lanes.{HaveRun}
use Rattle.crn_lanes.proofs.group.run_periods.Given as goal

abbrev pub invariant-loop-k : goal.invariant-loop-k
invariant-loop-k l = HaveRun l.levels l.model.costs (drawn_from l.model l.block) (has_returns l.model) l.period l.k l.fn.lanes l.lanes
