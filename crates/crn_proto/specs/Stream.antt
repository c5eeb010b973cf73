-- The words of a stream's blocks, in a row.
use Rattle.std.specs.Prelude.{ℕ, suc, zero, ◌+◌, ◌/◌, ◌%◌, List, [], ◌∷◌, ◌++◌}
use Rattle.crn_cipher.specs.declared.TheConstants.{BLOCK_WORDS}
use Rattle.crn_cipher.specs.Blocks.{block_word, BlockWords}

-- the blocks n, n + 1, .., of which there are `count`
unfoldable pub front : List ℕ → ℕ → ℕ → List (List ℕ)
front key n zero = []
front key n (suc count) = BlockWords key n ∷ front key (suc n) count

-- the first k words of the blocks from n on
unfoldable pub first_words : List ℕ → ℕ → ℕ → List ℕ
first_words key n zero = []
first_words key n (suc k) = first_words key n k ++ block_word key (n + k / BLOCK_WORDS) (k % BLOCK_WORDS) ∷ []
