use Rattle.std.proofs.Common.{rules}
use Rattle.std.specs.Prelude.{min}
use Rattle.crn_ring.specs.Calls.{reader_number, reader_part}
use Rattle.uses.proofs.Leaving.{by_ring}
use Rattle.uses.proofs.ring.first_blocks.Goals as goal

pub returns-clause-through : goal.returns-clause-through
returns-clause-through g c =
    by_ring c.in_ok-ring.ring c.args.key c.args.total c.min-count.result (reader_number c.first_of-reader.result) (reader_part c.first_of-reader.result).taken (min c.args.most c.args.total) c.pass_on.result
    (search rules) (search rules) (search rules) (search rules) c.pass_on.ensures.blocks
