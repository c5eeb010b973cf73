use Rattle.std.proofs.Common.{◌≡◌, ◌≤◌, arith, ap}
use Rattle.std.proofs.lemmas.Nat.{mul-le}
use Rattle.crn_stock.specs.Models.{ModelParts}
use Rattle.crn_stock.proofs.model.Model.total.Goals as goal

-- one replication has 1 to 256 blocks
pub returns-clause-some : goal.returns-clause-some
returns-clause-some c =
    let periods : c.self.inside.periods ≡ c.args.self.now.periods = ap (λ (m : ModelParts). m.periods) c.self.view_is in
    let some : 1 ≤ c.blocks_per_replication.result = omega (arith, periods, c.self.invariant.periods_low, c.blocks_per_replication.ensures.enough) in
    let replications : 1 ≤ c.from.result = omega (arith, c.from.ensures, c.self.invariant.replications_low) in
    mul-le 1 1 c.from.result c.blocks_per_replication.result replications some

pub returns-clause-limit : goal.returns-clause-limit
returns-clause-limit c =
    let periods : c.self.inside.periods ≡ c.args.self.now.periods = ap (λ (m : ModelParts). m.periods) c.self.view_is in
    let few : c.blocks_per_replication.result ≤ 256 = omega (arith, periods, c.self.invariant.periods_high, c.blocks_per_replication.ensures.least) in
    let replications : c.from.result ≤ 256 = omega (arith, c.from.ensures, c.self.invariant.replications_high) in
    mul-le c.from.result c.blocks_per_replication.result 256 256 replications few
