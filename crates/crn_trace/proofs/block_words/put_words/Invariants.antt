use Rattle.std.proofs.Common.{◌≡◌, ◌++◌, drop}
use Rattle.crn_trace.specs.BlockWords.{spaced}
use Rattle.crn_trace.proofs.block_words.put_words.Given as goal

abbrev pub invariant-loop-word : goal.invariant-loop-word
invariant-loop-word l = l.text.items ++ spaced (drop l.word-index l.words) ≡ l.initial.text.items ++ spaced l.words
