use Rattle.std.proofs.Common.{rules, ◌≡◌, ℕ, ◌+◌, ◌-◌, ◌*◌, inr, ap, sym, subst, arith}
use Rattle.crn_cipher.specs.declared.TheConstants.{BLOCK_WORDS}
use Rattle.crn_proto.specs.Chains.{ProducerReaches}
use Rattle.crn_ring.proofs.Bounds.{producer_steps}
use Rattle.crn_ring.proofs.Rooms.{publish_moves, publishes}
use Rattle.crn_ring.specs.Parts.{Publishes}
use Rattle.crn_steps.specs.Seats.{producer_in}
use Rattle.crn_proto.specs.declared.spec.RingSpec.{RingSpec}
use Rattle.crn_ring.specs.Gates.{Remembers}
use Rattle.crn_ring.proofs.producer.Producer.publish_batch.Goals as goal

pub returns-in-Blocks-clause-answer : goal.returns-in-Blocks-clause-answer
returns-in-Blocks-clause-answer c = let spec = c.args.ring.now.words.spec in
    publishes spec (producer_in c.args.self.now.seat) (producer_in c.find_room.new.seat) (producer_in c.store_rows.new.seat) (producer_in c.publish_upto.new.seat) _ c.in-Blocks.count
    c.requires.running c.args.self.now.rests c.in-Blocks.ensures.found c.find_room.ensures.moved (ap (λ m. m.0.producer) c.store_rows.ensures.view) c.store_rows.ensures.moved (ap (λ m. m.0.producer) c.publish_upto.ensures.view)

pub returns-in-Blocks-clause-moves : goal.returns-in-Blocks-clause-moves
returns-in-Blocks-clause-moves c = let spec = c.args.ring.now.words.spec in let count : ℕ = c.in-Blocks.count in
    let p = producer_in c.args.self.now.seat in let p' = producer_in c.publish_upto.new.seat in
    let done : Publishes spec p p' _ count = returns-in-Blocks-clause-answer c in
    let published = done.published in
    let risen : count ≡ p'.published - p.published = omega arith in
    subst (λ (z : ℕ). ProducerReaches spec p (spec.readers + BLOCK_WORDS * z + 1) p') risen
    (publish_moves spec p _ _ p' count c.find_room.ensures.moved c.store_rows.ensures.moved c.publish_upto.ensures.moved)

pub returns-in-Blocks-clause-steps : goal.returns-in-Blocks-clause-steps
returns-in-Blocks-clause-steps c = producer_steps c.args.ring.now.words.spec _ _ _ _ _ (returns-in-Blocks-clause-moves c)

pub find_room-requires-clause-at : goal.find_room-requires-clause-at
find_room-requires-clause-at c = let p = c.args.self.now in (c.requires.running, sym p.counts)

pub find_room-requires-clause-rests : goal.find_room-requires-clause-rests
find_room-requires-clause-rests c = let p = c.args.self.now in (p.rests, p.looks)

pub find_room-requires-clause-remembers : goal.find_room-requires-clause-remembers
find_room-requires-clause-remembers c = let p = c.args.self.now in
    subst (λ (z : RingSpec). Remembers z.size p.published z.readers (producer_in p.seat).gates p.least) c.requires.ring.1 p.remembers

pub store_rows-requires-clause-goes_on : goal.store_rows-requires-clause-goes_on
store_rows-requires-clause-goes_on c = inr c.in-Blocks.ensures.passed

pub publish_upto-requires-clause-at : goal.publish_upto-requires-clause-at
publish_upto-requires-clause-at c = search rules
