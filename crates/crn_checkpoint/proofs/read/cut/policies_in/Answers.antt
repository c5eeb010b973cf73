use Rattle.std.proofs.Common.{◌∙◌, subst, arith, rules}
use Rattle.crn_stock.specs.Models.{AreForScenario}
use Rattle.crn_checkpoint.proofs.Restorable.{policies_are}
use Rattle.crn_checkpoint.proofs.Rows.{for_scenario, within, handed_on}
use Rattle.crn_checkpoint.proofs.read.cut.policies_in.Goals as goal

pub returns-then-not-can_be-clause-reads : goal.returns-then-not-can_be-clause-reads
returns-then-not-can_be-clause-reads c = λ s n states h model next.
    let count = c.policy_count-count.ensures c.args.layout.now.version s n states h in
    let no = c.if-not-can_be.ensures.1 (within _ _ _ _ model next h.ranges.next_high, omega (arith, count, h.ranges.scenario.others.few)) in
    absurd (search (rules, no))

pub returns-in_err-found-clause-reads : goal.returns-in_err-found-clause-reads
returns-in_err-found-clause-reads c = λ s n states h model next.
    let count = c.policy_count-count.ensures c.args.layout.now.version s n states h in
    handed_on _ _ _ c.from_residual.ensures (c.in_err-found.ensures.reads s.policies states _ (policies_are s n states _ _ model next h.ranges) count (c.args.layout.now.is_policies s n states h))

pub returns-then-can_have-clause-reads : goal.returns-then-can_have-clause-reads
returns-then-can_have-clause-reads c = λ s n states h model next.
    let count = c.policy_count-count.ensures c.args.layout.now.version s n states h in
    c.in_ok-found.ensures.reads s.policies states _ (policies_are s n states _ _ model next h.ranges) count (c.args.layout.now.is_policies s n states h)

pub returns-else-can_have-clause-reads : goal.returns-else-can_have-clause-reads
returns-else-can_have-clause-reads c = λ s n states h model next.
    let count = c.policy_count-count.ensures c.args.layout.now.version s n states h in
    let read = c.in_ok-found.ensures.reads s.policies states _ (policies_are s n states _ _ model next h.ranges) count (c.args.layout.now.is_policies s n states h) in
    let no = c.if-can_have.ensures.1 (for_scenario s c.args.ring _ c.requires h.ranges.scenario.others (c.deref.ensures.value ∙ read.0)) in
    absurd (search (rules, no))

pub returns-then-can_have-clause-ranges : goal.returns-then-can_have-clause-ranges
returns-then-can_have-clause-ranges c =
    subst (AreForScenario c.args.ring) c.deref.ensures.value (c.if-can_have.ensures.0 (search rules))
