use Rattle.std.proofs.Common.{rules, ◌≡◌, ◌∙◌, ℕ, ◌-◌, ◌<◌, length, take, drop, refl, ap, arith}
use Rattle.crn_proto.specs.declared.actor_parts.ProducerPart.{ProducerPart}
use Rattle.crn_ring.specs.Calls.{producer_part, spec_of}
use Rattle.crn_ring.specs.Parts.{IsFull, Publishes}
use Rattle.crn_ring.specs.declared.answers.PublishMany.TheVariants.{Done, Full}
use Rattle.crn_run.proofs.Publishing.{once_begins, once_done, once_full, one_look, rest_follows, rest_length}
use Rattle.crn_run.proofs.feeding.publish_all.Goals as goal

pub loop-init : goal.loop-init
loop-init g c = record {
  of = c.requires.of;
  running = c.requires.running;
  within = omega arith;
  published = omega arith;
  once = λ _. once_begins (spec_of c.args.ring.now) (length c.args.blocks.now) (producer_part c.args.producer.now);
  looks = (0, (refl, refl));
}

pub returns-then-start-blocks-clause-once : goal.returns-then-start-blocks-clause-once
returns-then-start-blocks-clause-once g c room =
    let start : c.loop.start ≡ length c.args.blocks.now = search rules in
    ((c.loop.invariant.once room).all (omega (arith, start, c.requires.some))).1

pub publish_or_wait-requires-clause-blocks : goal.publish_or_wait-requires-clause-blocks
publish_or_wait-requires-clause-blocks g c =
    let left : c.loop.start < length c.args.blocks.now = search rules in
    let count = rest_length c.args.blocks.now c.loop.start in (
      omega (arith, left, count),
      omega (arith, left, count, c.loop.invariant.published, c.requires.blocks.0),
      rest_follows (spec_of c.args.ring.now).id.key (producer_part c.args.producer.now).published (producer_part c.loop.producer).published c.loop.start c.args.blocks.now c.loop.invariant.within c.loop.invariant.published
          c.requires.blocks.1,
    )

pub loop-preserved-in-Done : goal.loop-preserved-in-Done
loop-preserved-in-Done g c =
    let spec = spec_of c.args.ring.now in
    let all : ℕ = length c.args.blocks.now in
    let start : ℕ = c.loop.start in
    let p : ProducerPart = producer_part c.args.producer.now in
    let q : ProducerPart = producer_part c.loop.producer in
    let q' : ProducerPart = producer_part c.publish_or_wait.new.producer in
    let left : start < all = search rules in
    let rest : length (take (all - start) (drop start c.args.blocks.now)) ≡ all - start = rest_length c.args.blocks.now start in
    let done : Publishes spec q q' (length (take (all - start) (drop start c.args.blocks.now))) c.in-Done.count = search rules in
    record {
      of = search rules;
      running = done.running;
      within = omega (arith, done.at_most, rest, left);
      published = omega (arith, done.published, c.loop.invariant.published);
      once = once_done spec all start (length (take (all - start) (drop start c.args.blocks.now))) c.in-Done.count p q q' left rest c.loop.invariant.once c.publish_or_wait.ensures.quiet done;
      looks = one_look spec all start (length (take (all - start) (drop start c.args.blocks.now))) p q q' c.args.waiting.now.counted c.loop.waiting.counted c.publish_or_wait.new.waiting.counted (Done c.in-Done.count)
          c.loop.invariant.looks left rest c.loop.invariant.published (search rules);
    }

pub loop-preserved : goal.loop-preserved
loop-preserved g c =
    let spec = spec_of c.args.ring.now in
    let all : ℕ = length c.args.blocks.now in
    let start : ℕ = c.loop.start in
    let p : ProducerPart = producer_part c.args.producer.now in
    let q : ProducerPart = producer_part c.loop.producer in
    let q' : ProducerPart = producer_part c.publish_or_wait.new.producer in
    let left : start < all = search rules in
    let rest : length (take (all - start) (drop start c.args.blocks.now)) ≡ all - start = rest_length c.args.blocks.now start in
    let full : IsFull spec q q' c.in-Full.reader c.in-Full.taken = search rules in
    let same : q'.published ≡ q.published = ap (λ (x : ProducerPart). x.published) full.nothing_stored in
    record {
      of = search rules;
      running = ap (λ (x : ProducerPart). x.ended) full.nothing_stored ∙ c.loop.invariant.running;
      within = c.loop.invariant.within;
      published = same ∙ c.loop.invariant.published;
      once = once_full spec all start (length (take (all - start) (drop start c.args.blocks.now))) c.in-Full.reader c.in-Full.taken p q q' left rest c.loop.invariant.once c.publish_or_wait.ensures.quiet full;
      looks = one_look spec all start (length (take (all - start) (drop start c.args.blocks.now))) p q q' c.args.waiting.now.counted c.loop.waiting.counted c.publish_or_wait.new.waiting.counted (Full c.in-Full.reader c.in-Full.taken)
          c.loop.invariant.looks left rest c.loop.invariant.published (search rules);
    }
