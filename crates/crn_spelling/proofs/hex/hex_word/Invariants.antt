use Rattle.std.proofs.Common.{◌≡◌, ◌++◌, ◌-◌, drop, length}
use Rattle.crn_spelling.specs.Hex.{hex_digits, hex_word}
use Rattle.crn_spelling.proofs.hex.hex_word.Given as goal

abbrev pub invariant-loop-i : goal.invariant-loop-i
invariant-loop-i l = record {
  full : length l.text ≡ 16;
  made : hex_digits (16 - l.i) l.rest ++ drop (16 - l.i) l.text ≡ hex_word l.fn.word;
}
