use Rattle.std.proofs.Common.{◌≡◌, take}
use Rattle.crn_lanes.specs.Inner.Lanes.{column}
use Rattle.crn_lanes.proofs.unload.costs_from.Given as goal

abbrev pub invariant-loop-r : goal.invariant-loop-r
invariant-loop-r l = l.costs.items ≡ column (take l.r l.rows) l.k
