use Rattle.std.proofs.Common.{◌≡◌, false}
use Rattle.crn_ring.specs.Calls.{IsProducerOf, producer_part}
use Rattle.tests_ring.proofs.ring.threads.feed_one_by_one.Given as goal

abbrev pub invariant-loop : goal.invariant-loop
invariant-loop g l = IsProducerOf l.ring l.producer × ((producer_part l.producer).ended ≡ false)
