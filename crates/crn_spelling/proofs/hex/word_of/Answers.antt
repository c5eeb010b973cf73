use Rattle.std.proofs.Common.{sym}
use Rattle.crn_spelling.proofs.HexWords.{parsed, not_a_word, same_word, never_err}
use Rattle.crn_spelling.proofs.hex.word_of.Goals as goal

pub returns-then-not-is_hex_word : goal.returns-then-not-is_hex_word
returns-then-not-is_hex_word c = sym (not_a_word _ (sym c.if-not-is_hex_word.ensures))

pub unreachable-requires : goal.unreachable-requires
unreachable-requires c = never_err _ _ _ (parsed _ _ (sym c.if-not-is_hex_word.ensures) c.from_str_radix.ensures.value) c.in-Err.is

pub returns : goal.returns
returns c = same_word _ _ _ (parsed _ _ (sym c.if-not-is_hex_word.ensures) c.from_str_radix.ensures.value) c.in-Ok.is
