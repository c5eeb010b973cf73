use Rattle.std.proofs.Common.{rules, ◌≡◌, ◌++◌, ◌∷◌, [], ap, length, arith}
use Rattle.std.proofs.lemmas.Grind.{common_steps}
use Rattle.crn_sequential.proofs.Growing.{each-grown}
use Rattle.crn_sequential.proofs.Beginning.{Begun, begun}
use Rattle.crn_sequential.proofs.checkpoint.Checkpoint.start.Goals as goal

pub loop-policy-preserved : goal.loop-policy-preserved
loop-policy-preserved c =
    let s = c.args.scenario.now in
    let v = c.in_ok-start.field-0 in
    let made = c.in_ok-start.ensures in
    let grown : c.push.new.self.items ≡ c.loop-policy.states.items ++ v ∷ [] = search rules in
    let count = c.loop-policy.invariant.count in
    record {
      count = grind (arith, common_steps, grown, count);
      each = each-grown (Begun s.model s.key) c.loop-policy.states.items c.push.new.self.items v c.loop-policy._policy grown count c.loop-policy.invariant.each
          (begun s.model c.model.result.now s.key c.loop-policy._policy v c.model.ensures made.at made.of_model made.next made.between);
    }

pub returns-clause-of : goal.returns-clause-of
returns-clause-of c = record {
  count = omega (arith, ap length c.policies-policies.ensures.value, c.loop-policy.invariant.count);
  stand = λ i v e. (c.loop-policy.invariant.each i v e).0;
}

pub returns-clause-at : goal.returns-clause-at
returns-clause-at c i p v _ e = (c.loop-policy.invariant.each i v e).1 p
