use Rattle.std.proofs.Common.{◌≡◌, length, false}
use Rattle.crn_ring.specs.Calls.{IsProducerOf, producer_part, spec_of}
use Rattle.crn_run.specs.Feeding.{PublishesByBatches}
use Rattle.crn_run.specs.declared.batch.TheConstants.{BATCH}
use Rattle.crn_run.proofs.feeding.feed.Given as goal

abbrev pub invariant-loop : goal.invariant-loop
invariant-loop g l = record {
  of : IsProducerOf l.ring l.producer;
  running : (producer_part l.producer).ended ≡ false;
  room : length l.room ≡ BATCH;
  batches : PublishesByBatches (spec_of l.ring) (producer_part l.initial.producer) (producer_part l.producer) l.waiting.counted;
}
