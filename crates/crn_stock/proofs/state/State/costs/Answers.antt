use Rattle.std.proofs.Common.{subst}
use Rattle.crn_stock.specs.Parts.{AreInRange}
use Rattle.crn_stock.proofs.StateRanges.{in_range}
use Rattle.crn_stock.proofs.state.State.costs.Goals as goal

pub returns-clause-range : goal.returns-clause-range
returns-clause-range c = subst AreInRange c.self.view_is (in_range c.self.inside c.self.invariant)
