use Rattle.std.proofs.Common.{rules}
use Rattle.crn_ring.proofs.Bounds.{reader_steps}
use Rattle.crn_ring.proofs.reader.Reader.take_shown.Goals as goal

pub returns-clause-steps : goal.returns-clause-steps
returns-clause-steps c = search (rules, reader_steps _ _ _ _ c.take_seen-more.ensures.moved)
