use Rattle.std.proofs.Common.{◌≡◌, ℕ, ◌+◌, ◌≤◌, length, false}
use Rattle.crn_ring.specs.Calls.{IsProducerOf, producer_part, spec_of}
use Rattle.crn_ring.specs.Gates.{HaveRoom}
use Rattle.crn_run.specs.Feeding.{OffersAll}
use Rattle.crn_run.proofs.Publishing.{AtOnce}
use Rattle.crn_run.proofs.feeding.publish_all.Given as goal

abbrev pub invariant-loop : goal.invariant-loop
invariant-loop g l = record {
  of : IsProducerOf l.ring l.producer;
  running : (producer_part l.producer).ended ≡ false;
  within : l.start ≤ length l.blocks;
  published : (producer_part l.producer).published ≡ (producer_part l.initial.producer).published + l.start;
  once : HaveRoom (spec_of l.ring) (producer_part l.initial.producer) (length l.blocks) → AtOnce (spec_of l.ring) (length l.blocks) l.start (producer_part l.initial.producer) (producer_part l.producer);
  looks : (count : ℕ) × OffersAll count (spec_of l.ring) ((producer_part l.initial.producer).published + length l.blocks) (producer_part l.initial.producer) l.initial.waiting.counted (producer_part l.producer) l.waiting.counted;
}
