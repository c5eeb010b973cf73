use Rattle.std.proofs.Common.{rules, arith}
use Rattle.crn_proto.specs.Ring.{ReaderMay, reader_after}
use Rattle.crn_proto.proofs.Chains.{reaches_join}
use Rattle.crn_ring.proofs.Rooms.{take_moves}
use Rattle.crn_ring.proofs.reader.Reader.try_take.Goals as goal

pub returns-clause-moves : goal.returns-clause-moves
returns-clause-moves c = take_moves _ _ _ 1 c.load_cursor-cursor.ensures.moved (reaches_join ReaderMay reader_after _ _ _ _ 1 c.load_row-words.ensures.moved c.store_taken.ensures.moved)

pub load_cursor-cursor-requires-clause-goes_on : goal.load_cursor-cursor-requires-clause-goes_on
load_cursor-cursor-requires-clause-goes_on c = let p = c.args.self.now in
    λ looked. let all = p.looks looked in let saw = p.saw in let counts = p.counts in omega arith

pub load_row-words-requires-clause-at : goal.load_row-words-requires-clause-at
load_row-words-requires-clause-at c = search rules
