use Rattle.std.proofs.Common.{◌≡◌, ◌*◌, ◌≤◌, sum, take}
use Rattle.crn_limits.specs.declared.TheConstants.{PERIOD_LIMIT}
use Rattle.crn_stock.specs.declared.limits.TheConstants.{PERIOD_COST_LIMIT}
use Rattle.crn_report.proofs.report_text.total_of.Given as goal

abbrev pub invariant-loop-cost : goal.invariant-loop-cost
invariant-loop-cost l = record {
  is : l.total ≡ sum (take l.cost-index l.costs);
  high : l.total ≤ l.cost-index * (PERIOD_LIMIT * PERIOD_COST_LIMIT);
}
