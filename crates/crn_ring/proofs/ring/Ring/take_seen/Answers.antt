use Rattle.crn_proto.specs.Ring.{ReaderMay, reader_after}
use Rattle.crn_proto.proofs.Chains.{reaches_join}
use Rattle.crn_ring.proofs.ring.Ring.take_seen.Goals as goal

pub returns-clause-moved : goal.returns-clause-moved
returns-clause-moved c = reaches_join ReaderMay reader_after _ _ _ _ 1 c.load_rows.ensures.moved c.store_taken.ensures.moved
