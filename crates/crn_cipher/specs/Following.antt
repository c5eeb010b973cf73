-- Blocks of a key that follow one another.
use Rattle.std.specs.Prelude.{◌≡◌, ℕ, ◌+◌, ◌<◌, List, Some, slice_get}
use Rattle.crn_cipher.specs.declared.stream.Block.{Block}

-- the first `count` of these are the blocks of the key from number n on
abbrev pub FollowOn : List ℕ → ℕ → ℕ → List Block → Type 0
FollowOn key n count blocks = (j : ℕ) (b : Block) → j < count → slice_get blocks j ≡ Some b → (b.key ≡ key) × (b.number ≡ n + j)
