use Rattle.std.proofs.Common.{◌≡◌, ◌∙◌, ◌∷◌, [], ap, arith, get_or}
use Rattle.crn_checkpoint.specs.CheckpointText.{checkpoint_rows}
use Rattle.crn_checkpoint.specs.Inner.Cells.{cell}
use Rattle.crn_checkpoint.proofs.Words.{word_read}
use Rattle.crn_checkpoint.proofs.Rows.{four_words}
use Rattle.crn_checkpoint.proofs.read.scenario.key_of.Goals as goal

pub returns : goal.returns
unfolding checkpoint_rows
returns c = λ v s next states h.
    let key = s.key in
    let long = h.ranges.scenario.key_length in
    let small = h.ranges.scenario.key_words in
    let first : c.word_of.result ≡ get_or key 0 0 = word_read _ _ _ _ (small 0 0 (omega (arith, long))) (ap (λ rows. cell rows 1 1) h.rows_are) c.text_in.ensures c.word_of.ensures in
    let second : c.word_of-2.result ≡ get_or key 1 0 = word_read _ _ _ _ (small 1 0 (omega (arith, long))) (ap (λ rows. cell rows 1 2) h.rows_are) c.text_in-2.ensures c.word_of-2.ensures in
    let third : c.word_of-3.result ≡ get_or key 2 0 = word_read _ _ _ _ (small 2 0 (omega (arith, long))) (ap (λ rows. cell rows 1 3) h.rows_are) c.text_in-3.ensures c.word_of-3.ensures in
    let fourth : c.word_of-4.result ≡ get_or key 3 0 = word_read _ _ _ _ (small 3 0 (omega (arith, long))) (ap (λ rows. cell rows 1 4) h.rows_are) c.text_in-4.ensures c.word_of-4.ensures in
    (λ i. first i ∷ second i ∷ third i ∷ fourth i ∷ []) ∙ four_words key long
