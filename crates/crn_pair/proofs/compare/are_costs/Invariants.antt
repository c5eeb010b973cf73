use Rattle.std.proofs.Common.{◌≡◌, drop}
use Rattle.crn_pair.specs.Limits.{are_costs}
use Rattle.crn_pair.proofs.compare.are_costs.Given as goal

abbrev pub invariant-costs : goal.invariant-costs
invariant-costs l = are_costs (drop l.cost-index l.costs) ≡ are_costs l.costs
