use Rattle.crn_ring.specs.Calls.{IsProducerOf}
use Rattle.tests_ring.proofs.run.ends.publish_all.Given as goal

abbrev pub invariant-loop-turn : goal.invariant-loop-turn
invariant-loop-turn l = IsProducerOf l.ring l.producer
