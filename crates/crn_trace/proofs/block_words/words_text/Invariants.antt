use Rattle.std.proofs.Common.{◌≡◌, ◌++◌, drop}
use Rattle.crn_trace.specs.BlockWords.{stream_lines}
use Rattle.crn_trace.proofs.block_words.words_text.Given as goal

abbrev pub invariant-loop-stream : goal.invariant-loop-stream
invariant-loop-stream l =
    l.text.items ++ stream_lines l.block.key l.block.number (drop l.stream-index l.stream-items) ≡ stream_lines l.block.key l.block.number l.stream-items
