use Rattle.std.proofs.Common.{rules, ◌≡◌, ◌<◌, ◌++◌, ◌∷◌, [], inr, refl, sym, subst, length, arith, false-eqb, true-eqb, List, ℕ}
use Rattle.crn_proto.specs.declared.schedule.Actor.{Actor}
use Rattle.std.proofs.lemmas.List.{nil_from_length}
use Rattle.crn_trace.proofs.ReadBack.{IsReadSoFar, one_more, no_schedule, all_read, same_actor, no_actor}
use Rattle.crn_trace.proofs.schedules.read_lines.Goals as goal

pub returns-in-None-clause-refuses : goal.returns-in-None-clause-refuses
returns-in-None-clause-refuses c =
    let some : 0 < length c.loop-rest.rest.now = omega (arith, false-eqb _ 0 c.loop-rest-test.ensures) in
    let (line, after) = c.cut_line.result in
    inr (
      refl,
      no_schedule c.args.bytes.now c.loop-rest.actors.items c.loop-rest.rest.now line.now after.now c.loop-rest.invariant c.cut_line.ensures.cut some
          (λ w number is. no_actor _ w c.in-None.is (c.actor_of.ensures.every w number is)),
    )

pub loop-rest-preserved : goal.loop-rest-preserved
loop-rest-preserved c =
    let some : 0 < length c.loop-rest.rest.now = omega (arith, false-eqb _ 0 c.loop-rest-test.ensures) in
    let who = c.in-Some.who in
    let (line, after) = c.cut_line.result in
    let grown : c.push.new.self.items ≡ c.loop-rest.actors.items ++ who ∷ [] = search rules in
    let (is, number) = c.in-Some.ensures.spelt in
    subst (λ (found : List Actor). IsReadSoFar c.args.bytes.now found after.now) (sym grown)
    (one_more c.args.bytes.now c.loop-rest.actors.items c.loop-rest.rest.now line.now after.now who c.loop-rest.invariant c.cut_line.ensures.cut some number is
    (λ w below e. same_actor who w (c.in-Some.ensures.every w below e)))

pub returns-clause-schedule : goal.returns-clause-schedule
returns-clause-schedule c =
    let none = nil_from_length c.loop-rest.rest.now (true-eqb _ 0 c.loop-rest-test.ensures) in
    all_read c.args.bytes.now c.loop-rest.actors.items (subst (λ (rest : List ℕ). IsReadSoFar c.args.bytes.now c.loop-rest.actors.items rest) none c.loop-rest.invariant)
