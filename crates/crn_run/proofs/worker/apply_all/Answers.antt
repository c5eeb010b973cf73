use Rattle.std.proofs.Common.{rules, ◌≡◌, true, false, subst, arith}
use Rattle.crn_cipher.specs.declared.stream.Block.{Block}
use Rattle.crn_stock.specs.Stock.{next_block, terms_in, terms_of}
use Rattle.crn_run.proofs.Asking.{held_next, passed_next, passed_none}
use Rattle.crn_run.proofs.Advancing.{advances_more, advances_none, next_follows}
use Rattle.crn_run.proofs.worker.apply_all.Goals as goal

pub loop-k-init : goal.loop-k-init
loop-k-init g c = record {
  advances = advances_none c.args.scenario.now.model c.args.rules.now c.args.scenario.now.key c.args.state.now c.requires.stands;
  next = omega arith;
  gate = c.requires.gate;
  passed = passed_none g.G.Gate.asked c.args.policy (next_block c.args.state.now) c.args.gate.now;
}

pub apply-requires-clause-block : goal.apply-requires-clause-block
apply-requires-clause-block g c =
    let stands = c.loop-k.invariant.advances.stands in
    let follows = next_follows c.args.scenario.now.key (next_block c.args.state.now) c.loop-k.k (next_block c.loop-k.state) c.args.places.now.count c.args.places.now.blocks c.taken-next.result.block.now
    c.requires.blocks (search rules) c.taken-next.ensures c.loop-k.invariant.next in
    record { of_model = stands.of_model; between = stands.between; next = follows.1; below = omega (arith, follows.1, c.loop-k.invariant.next, c.requires.below, c.loop-k-test.true) }

pub loop-k-preserved : goal.loop-k-preserved
loop-k-preserved g c =
    let s = c.args.scenario.now in
    let b = c.taken-next.result.block.now in
    let has = c.apply.ensures in
    let terms : terms_in c.of-terms.result ≡ terms_of c.args.rules.now s.model.costs = search rules in
    let follows = next_follows c.args.scenario.now.key (next_block c.args.state.now) c.loop-k.k (next_block c.loop-k.state) c.args.places.now.count c.args.places.now.blocks c.taken-next.result.block.now
    c.requires.blocks (search rules) c.taken-next.ensures c.loop-k.invariant.next in
    record {
      advances = advances_more s.model c.args.rules.now (terms_in c.of-terms.result) s.key c.args.state.now c.loop-k.state c.apply.new.state b c.loop-k.invariant.advances has terms follows.0 follows.1;
      next = omega (arith, has.next, follows.1, c.loop-k.invariant.next);
      gate = c.in-Some.ensures.passed.0;
      passed = passed_next g.G.Gate.asked c.args.policy (next_block c.args.state.now) (next_block c.loop-k.state) (next_block c.apply.new.state) b.number c.args.gate.now c.loop-k.gate c.ask.new.gate c.loop-k.invariant.passed
          follows.1 has.next (subst (λ (x : Block). g.G.Gate.asked c.loop-k.gate c.args.policy x.number true c.ask.new.gate) c.block.ensures c.in-Some.ensures.passed.1);
    }

pub apply-requires-clause-permit : goal.apply-requires-clause-permit
apply-requires-clause-permit g c = search rules

pub returns-in-None-clause-held : goal.returns-in-None-clause-held
returns-in-None-clause-held g c _ =
    let follows = next_follows c.args.scenario.now.key (next_block c.args.state.now) c.loop-k.k (next_block c.loop-k.state) c.args.places.now.count c.args.places.now.blocks c.taken-next.result.block.now
    c.requires.blocks (search rules) c.taken-next.ensures c.loop-k.invariant.next in (
      omega (arith, c.loop-k.invariant.next, c.loop-k-test.true),
      held_next g.G.Gate.asked c.args.policy (next_block c.args.state.now) (next_block c.loop-k.state) c.taken-next.result.block.now.number c.args.gate.now c.loop-k.gate c.ask.new.gate c.loop-k.invariant.passed follows.1
          (subst (λ (x : Block). g.G.Gate.asked c.loop-k.gate c.args.policy x.number false c.ask.new.gate) c.block.ensures c.in-None.ensures.held.1),
    )

pub returns-clause-passed : goal.returns-clause-passed
returns-clause-passed g c _ = c.loop-k.invariant.passed
