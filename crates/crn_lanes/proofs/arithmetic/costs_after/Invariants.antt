use Rattle.std.proofs.Common.{◌+◌, slice_index}
use Rattle.crn_stock.specs.Stock.{cost_of}
use Rattle.crn_lanes.specs.Inner.Lanes.{IsRow, unbiased}
use Rattle.crn_lanes.proofs.arithmetic.costs_after.Given as goal

abbrev pub invariant-loop-k : goal.invariant-loop-k
invariant-loop-k l = IsRow (λ k. slice_index l.running k + cost_of l.costs.setup l.costs.unit l.costs.holding l.costs.backlog (slice_index l.orders k) (unbiased (slice_index l.stock k))) l.k l.after
