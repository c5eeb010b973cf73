use Rattle.std.proofs.Common.{rules, ◌≡◌, ◌+◌, ◌<◌, ◌≤◌, slice_get, Some, refl, sym, ◌∙◌, arith}
use Rattle.crn_stock.specs.Stock.{next_block}
use Rattle.crn_ring.specs.Calls.{reader_number, reader_part, spec_of}
use Rattle.crn_ring.specs.Parts.{SeesEnd}
use Rattle.crn_run.specs.Inner.Ends.{Advances}
use Rattle.crn_run.specs.Turns.{TakesNext}
use Rattle.crn_run.proofs.Asking.{held_then, passed_none, passed_then}
use Rattle.crn_run.proofs.Ending.{asked_whole, ends_as}
use Rattle.crn_run.proofs.Advancing.{advances_then, advanced, follow_from, taken_on}
use Rattle.crn_run.proofs.Turning.{by_turns, next_turn, no_turn}
use Rattle.crn_sequential.proofs.Running.{read_policy}
use Rattle.crn_run.proofs.worker.run_policy.Goals as goal

pub loop-init : goal.loop-init
loop-init g c = record {
  reader = search rules;
  number = search rules;
  running = search rules;
  taken = search rules;
  advances = search rules;
  gate = c.requires.gate;
  turns = no_turn (spec_of c.args.ring.now) (reader_part c.args.reader) _ c.new-waiting.ensures.counted;
  passed = passed_none g.G.Gate.asked c.args.policy (next_block c.args.state) c.args.gate.now;
}

pub returns-then-not-apply_all-clause-turns : goal.returns-then-not-apply_all-clause-turns
returns-then-not-apply_all-clause-turns g c =
    let turns = next_turn (spec_of c.args.ring.now) (reader_part c.args.reader) (reader_part c.loop.reader) (reader_part c.take_or_wait.new.reader) c.loop.waiting.counted c.take_or_wait.new.waiting.counted c.loop.places.blocks c.take_or_wait.new.places.blocks
    c.take_or_wait.result c.loop.invariant.turns c.loop.places.places c.take_or_wait.ensures.answer c.take_or_wait.ensures.waits in (
      c.take_or_wait.new.waiting.counted,
      reader_part c.take_or_wait.new.reader,
      turns,
      search rules,
    )

pub returns-in-Ended-clause-turns : goal.returns-in-Ended-clause-turns
returns-in-Ended-clause-turns g c =
    let turns = next_turn (spec_of c.args.ring.now) (reader_part c.args.reader) (reader_part c.loop.reader) (reader_part c.take_or_wait.new.reader) c.loop.waiting.counted c.take_or_wait.new.waiting.counted c.loop.places.blocks c.take_or_wait.new.places.blocks
    c.take_or_wait.result c.loop.invariant.turns c.loop.places.places c.take_or_wait.ensures.answer c.take_or_wait.ensures.waits in
    by_turns (spec_of c.args.ring.now) (reader_part c.args.reader) c.in-Ended.published (spec_of c.args.ring.now).id.total c.loop.state c.take_or_wait.new.reader c.ended.result c.take_or_wait.new.waiting.counted turns c.ended.ensures.total c.ended.ensures.early

pub apply_all-requires-clause-blocks : goal.apply_all-requires-clause-blocks
apply_all-requires-clause-blocks g c =
    let took : TakesNext (spec_of c.args.ring.now) (reader_part c.loop.reader) (reader_part c.take_or_wait.new.reader) c.loop.places.blocks c.take_or_wait.new.places.blocks c.take_or_wait.new.places.count = search rules in
    follow_from (spec_of c.args.ring.now).id.key c.args.scenario.now.key (reader_part c.loop.reader).taken (next_block c.loop.state) c.take_or_wait.new.places.count c.take_or_wait.new.places.blocks c.requires.ring.0 c.loop.invariant.taken took.follow

pub returns-then-not-apply_all-clause-end : goal.returns-then-not-apply_all-clause-end
returns-then-not-apply_all-clause-end g c =
    let s = c.args.scenario.now in
    let p = c.index-policies-policy.result in
    let is_policy : slice_get s.policies c.args.policy ≡ Some p = read_policy s.policies c.policies.result.now c.args.policy p c.policies.ensures.value (search rules) c.index-policies-policy.is in
    let all : Advances s.model p s.key c.args.state c.apply_all.new.state =
    advances_then s.model p s.key c.args.state c.loop.state c.apply_all.new.state c.loop.invariant.advances c.apply_all.ensures.advances in
    let took : TakesNext (spec_of c.args.ring.now) (reader_part c.loop.reader) (reader_part c.take_or_wait.new.reader) c.loop.places.blocks c.take_or_wait.new.places.blocks c.take_or_wait.new.places.count = search rules in
    let within : (reader_part c.take_or_wait.new.reader).taken ≤ (spec_of c.args.ring.now).id.total = search rules in
    let before : next_block c.apply_all.new.state < next_block c.loop.state + c.take_or_wait.new.places.count = (c.apply_all.ensures.held (search rules)).0 in (
      omega (arith, before, within, took.taken, c.loop.invariant.taken),
      advanced s c.args.policy p c.args.state c.apply_all.new.state (next_block c.apply_all.new.state) is_policy c.onward_from_itself.ensures all refl,
      search rules,
    )

pub returns-then-not-apply_all-clause-asked : goal.returns-then-not-apply_all-clause-asked
returns-then-not-apply_all-clause-asked g c =
    held_then g.G.Gate.asked c.args.policy (next_block c.args.state) (next_block c.loop.state) (next_block c.apply_all.new.state) c.args.gate.now c.loop.gate c.apply_all.new.gate c.loop.invariant.passed
    (c.apply_all.ensures.held (search rules)).1

pub loop-preserved-else-not-apply_all : goal.loop-preserved-else-not-apply_all
loop-preserved-else-not-apply_all g c =
    let s = c.args.scenario.now in
    let p = c.index-policies-policy.result in
    let took : TakesNext (spec_of c.args.ring.now) (reader_part c.loop.reader) (reader_part c.take_or_wait.new.reader) c.loop.places.blocks c.take_or_wait.new.places.blocks c.take_or_wait.new.places.count = search rules in
    let went : next_block c.apply_all.new.state ≡ next_block c.loop.state + c.take_or_wait.new.places.count = search rules in
    record {
      reader = search rules;
      number = search rules;
      running = took.running;
      taken = taken_on (reader_part c.loop.reader).taken (reader_part c.take_or_wait.new.reader).taken (next_block c.loop.state) (next_block c.apply_all.new.state) c.take_or_wait.new.places.count c.loop.invariant.taken took.taken went;
      advances = advances_then s.model p s.key c.args.state c.loop.state c.apply_all.new.state c.loop.invariant.advances c.apply_all.ensures.advances;
      gate = search rules;
      turns = next_turn (spec_of c.args.ring.now) (reader_part c.args.reader) (reader_part c.loop.reader) (reader_part c.take_or_wait.new.reader) c.loop.waiting.counted c.take_or_wait.new.waiting.counted c.loop.places.blocks c.take_or_wait.new.places.blocks
          c.take_or_wait.result c.loop.invariant.turns c.loop.places.places c.take_or_wait.ensures.answer c.take_or_wait.ensures.waits;
      passed = passed_then g.G.Gate.asked c.args.policy (next_block c.args.state) (next_block c.loop.state) (next_block c.apply_all.new.state) c.args.gate.now c.loop.gate c.apply_all.new.gate c.loop.invariant.passed (c.apply_all.ensures.passed (search rules));
    }

pub returns-in-Ended-clause-end : goal.returns-in-Ended-clause-end
returns-in-Ended-clause-end g c =
    let s = c.args.scenario.now in
    let p = c.index-policies-policy.result in
    let is_policy : slice_get s.policies c.args.policy ≡ Some p = read_policy s.policies c.policies.result.now c.args.policy p c.policies.ensures.value (search rules) c.index-policies-policy.is in
    let saw : SeesEnd (reader_part c.loop.reader) (reader_part c.take_or_wait.new.reader) c.in-Ended.published = search rules in
    let within : (reader_part c.take_or_wait.new.reader).taken ≤ (spec_of c.args.ring.now).id.total = search rules in
    let stands : next_block c.loop.state ≡ c.in-Ended.published = sym c.loop.invariant.taken ∙ sym saw.all_taken in
    let below : c.in-Ended.published ≤ (spec_of c.args.ring.now).id.total = omega (arith, within, saw.stays, saw.all_taken) in
    ends_as s c.args.policy c.args.state c.args.ring.now (reader_number c.args.reader) c.in-Ended.published c.loop.state c.take_or_wait.new.reader c.ended.result
    (advanced s c.args.policy p c.args.state c.loop.state c.in-Ended.published is_policy c.onward_from_itself.ensures c.loop.invariant.advances stands)
    (record {
      of_ring = search rules;
      number = search rules;
      ended = saw.ended;
      taken = saw.stays ∙ sym saw.all_taken;
    })
    below c.ended.ensures.total c.ended.ensures.early

pub returns-in-Ended-clause-asked : goal.returns-in-Ended-clause-asked
returns-in-Ended-clause-asked g c =
    asked_whole g.G.Gate.asked c.args.policy (next_block c.args.state) c.in-Ended.published (spec_of c.args.ring.now).id.total c.args.gate.now c.loop.gate c.loop.state c.take_or_wait.new.reader c.ended.result c.ended.ensures.total c.ended.ensures.early
    c.loop.invariant.passed
