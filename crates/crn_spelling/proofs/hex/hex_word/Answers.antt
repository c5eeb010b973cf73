use Rattle.std.proofs.Common.{refl, length-set}
use Rattle.crn_spelling.specs.Hex.{hex_word}
use Rattle.crn_spelling.proofs.HexWritten.{turn, last, start}
use Rattle.crn_spelling.proofs.hex.hex_word.Goals as goal

pub loop-i-init : goal.loop-i-init
loop-i-init c = record { full = refl; made = start c.args.word }

pub loop-i-preserved : goal.loop-i-preserved
loop-i-preserved c = record {
  full = rw length-set c.loop-i.invariant.full;
  made = turn c.loop-i.i c.loop-i.rest c.glyph.result c.loop-i.text (hex_word c.args.word) c.loop-i-test.true c.loop-i.invariant.full c.glyph.ensures c.loop-i.invariant.made;
}

pub returns : goal.returns
returns c = last c.loop-i.i c.loop-i.rest c.loop-i.text (hex_word c.args.word) c.loop-i-test.false c.loop-i.invariant.made
