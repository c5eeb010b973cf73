-- Words that are a block's one by one are its words.
use Rattle.std.proofs.Common.{◌≡◌, ℕ, ◌<◌, List, length, get_or, sym, ◌∙◌, arith}
use Rattle.std.proofs.lemmas.Grind.{same_number_lists}
use Rattle.crn_cipher.specs.declared.TheConstants.{BLOCK_WORDS}
use Rattle.crn_cipher.specs.Blocks.{block_word, BlockWords}
use Rattle.crn_cipher.proofs.Blocks.{length-block}

pub whole_row : (key : List ℕ) (n : ℕ) (words : List ℕ) → length words ≡ BLOCK_WORDS → ((j : ℕ) → j < BLOCK_WORDS → get_or words j 0 ≡ block_word key n j) → words ≡ BlockWords key n
whole_row key n words long each = same_number_lists words (BlockWords key n) (long ∙ sym (length-block key n)) (λ k few. each k (omega arith))
