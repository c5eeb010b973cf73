use Rattle.std.proofs.Common.{arith}
use Rattle.crn_lanes.proofs.Amounts.{cost_is, cost_limit}
use Rattle.crn_lanes.proofs.arithmetic.cost_for.Goals as goal

pub returns-clause-value : goal.returns-clause-value
returns-clause-value c =
    cost_is c.args.stock c.raised-most.result c.raised-most.ensures.below c.raised-most.ensures.above
    c.args.costs.now.setup c.args.costs.now.unit c.args.order c.args.costs.now.holding c.args.costs.now.backlog _ _ _ _
    c.setup_for.ensures.value c.product.ensures c.product-2.ensures c.product-3.ensures

pub returns-clause-cap : goal.returns-clause-cap
returns-clause-cap c =
    let k = c.args.costs.now in
    let r = c.requires.costs in
    let limit = cost_limit k.setup k.unit k.holding k.backlog c.args.order c.args.stock r.setup r.unit r.holding r.backlog c.requires.order c.requires.stock in
    omega (arith, limit, returns-clause-value c)
