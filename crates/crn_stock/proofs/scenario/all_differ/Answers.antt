use Rattle.std.proofs.Common.{rules, below_more, ◌≢◌, All, sym, subst}
use Rattle.crn_stock.specs.declared.policy.Policy.{Policy}
use Rattle.crn_stock.proofs.Differing.{from_later, to_later}
use Rattle.crn_stock.proofs.scenario.all_differ.Goals as goal

pub returns-then-not-is_new : goal.returns-then-not-is_new
returns-then-not-is_new c = (
  λ no. absurd (search (rules, no)),
  λ differ. c.if-not-is_new.ensures.1 (subst (All (λ (q : Policy). c.index-policies-i.result.name ≢ q.name)) (sym c.later.ensures) (to_later c.args.policies.now c.loop-i.i c.index-policies-i.result c.index-policies-i.is c.loop-i-test.true differ)),
)

pub loop-i-preserved : goal.loop-i-preserved
loop-i-preserved c = below_more _ _ c.loop-i.invariant
    (from_later c.args.policies.now c.loop-i.i c.index-policies-i.result c.index-policies-i.is c.loop-i-test.true (subst (All (λ (q : Policy). c.index-policies-i.result.name ≢ q.name)) c.later.ensures (c.if-not-is_new.ensures.0 (search rules))))
