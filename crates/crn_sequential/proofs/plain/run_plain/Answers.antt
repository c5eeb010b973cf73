use Rattle.std.proofs.Common.{rules, ◌≡◌, ◌++◌, ◌∷◌, [], ap, length, arith, Some, slice_get, ℕ, subst, sym}
use Rattle.std.proofs.lemmas.Grind.{common_steps}
use Rattle.crn_sequential.specs.Runs.{StandsBefore}
use Rattle.crn_sequential.proofs.Growing.{each-grown}
use Rattle.crn_sequential.proofs.Running.{Ran, ran, read_at, read_policy, each_at}
use Rattle.crn_sequential.proofs.plain.run_plain.Goals as goal

-- the state that is taken further stands where the checkpoint does
stands : (c : goal.After-index-from) → StandsBefore c.args.scenario.now.model c.args.start.now.next c.index-from.result.now
stands c =
    c.requires.of.stand c.loop-i.i c.index-from.result.now
    (read_at c.args.start.now.states.items c.args.scenario.now.policies c.policies-policies.result.now c.loop-i.i c.index-from.result.now c.requires.of.count c.policies-policies.ensures.value c.loop-i-test.true c.index-from.ensures)

pub run_policy_plain-requires-clause-stands : goal.run_policy_plain-requires-clause-stands
run_policy_plain-requires-clause-stands c =
    subst (λ (n : ℕ). StandsBefore c.args.scenario.now.model n c.index-from.result.now) (sym (stands c).next) (stands c)

pub run_policy_plain-requires-clause-from : goal.run_policy_plain-requires-clause-from
run_policy_plain-requires-clause-from c = omega (arith, (stands c).next, c.requires.from)

pub loop-i-preserved : goal.loop-i-preserved
loop-i-preserved c =
    let s = c.args.scenario.now in
    let start = c.args.start.now in
    let i = c.loop-i.i in
    let w = c.index-from.result.now in
    let v = c.in_ok-state.state in
    let grown : c.push.new.self.items ≡ c.loop-i.states.items ++ v ∷ [] = search rules in
    let count = c.loop-i.invariant.count in
    let same = c.policies-policies.ensures.value in
    let is_state : slice_get start.states.items i ≡ Some w = read_at start.states.items s.policies c.policies-policies.result.now i w c.requires.of.count same c.loop-i-test.true c.index-from.ensures in
    let is_policy : slice_get s.policies i ≡ Some c.index-policies-i.result = read_policy s.policies c.policies-policies.result.now i c.index-policies-i.result same c.loop-i-test.true c.index-policies-i.is in
    record {
      count = grind (arith, common_steps, grown, count);
      each = each-grown (Ran s start.states.items c.args.upto) c.loop-i.states.items c.push.new.self.items v i grown count c.loop-i.invariant.each
          (ran s start.states.items c.args.upto i c.index-policies-i.result w v is_policy is_state c.in_ok-state.ensures.stands c.in_ok-state.ensures.onward);
    }

pub returns-clause-of : goal.returns-clause-of
returns-clause-of c = record {
  count = omega (arith, c.loop-i.invariant.count, ap length c.policies-policies.ensures.value);
  stand = λ i v e. (c.loop-i.invariant.each i v e).0;
}

pub returns-clause-onward : goal.returns-clause-onward
returns-clause-onward c i p w v of_policy of_start of_state = (c.loop-i.invariant.each i v of_state).1 p w of_policy of_start

pub returns-clause-at : goal.returns-clause-at
returns-clause-at c =
    let start = c.args.start.now in
    each_at c.args.scenario.now start.states.items c.loop-i.states.items start.next c.args.upto c.requires.of (returns-clause-onward c)
