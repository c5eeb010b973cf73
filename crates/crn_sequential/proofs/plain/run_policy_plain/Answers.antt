use Rattle.std.proofs.Common.{rules, ◌≡◌, ℕ, subst}
use Rattle.crn_stock.specs.Stock.{OnwardAt}
use Rattle.crn_sequential.proofs.plain.run_policy_plain.Goals as goal

pub returns-clause-onward : goal.returns-clause-onward
returns-clause-onward c =
    let there : c.loop-number.number ≡ c.args.upto = search rules in
    subst (λ (n : ℕ). OnwardAt c.args.scenario.now.model c.args.policy.now c.args.scenario.now.key c.args.from.now n c.loop-number.state) there c.loop-number.invariant.onward
