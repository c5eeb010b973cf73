use Rattle.std.proofs.Common.{rules}
use Rattle.crn_scenario.proofs.scenario.costs_of.Goals as goal

pub returns : goal.returns
returns c = search rules
