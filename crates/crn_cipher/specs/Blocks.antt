-- The blocks of a key: the streams within them, and their words.
use Rattle.std.specs.Prelude.{ℕ, List, [], ◌∷◌, ◌++◌, slice_index, codes}
use Rattle.crn_cipher.specs.declared.stream.Stream.{Stream}
use Rattle.crn_cipher.specs.declared.stream.Stream.TheVariants.{Demand, Lead, Returns}
use Rattle.crn_cipher.specs.Cipher.{Threefry}

-- the streams of a block, in the order in which their words stand
abbrev pub streams : List Stream
streams = Demand ∷ Lead ∷ Returns ∷ []

-- what a stream is called
abbrev pub name_of : Stream → List ℕ
name_of Demand = codes "demand"
name_of Lead = codes "lead"
name_of Returns = codes "returns"

-- the second word of a stream's counters
abbrev pub counter_of : Stream → ℕ
counter_of Demand = 0
counter_of Lead = 1
counter_of Returns = 2

-- the words of a stream in block n
abbrev pub StreamWords : List ℕ → ℕ → Stream → List ℕ
StreamWords key n s = Threefry key (n ∷ counter_of s ∷ 0 ∷ 0 ∷ [])

-- the words of several streams in block n, one stream after another
abbrev pub words_of : List ℕ → ℕ → List Stream → List ℕ
words_of key n [] = []
words_of key n (s ∷ ss) = StreamWords key n s ++ words_of key n ss

-- the words of block n
unfoldable pub BlockWords : List ℕ → ℕ → List ℕ
BlockWords key n = words_of key n streams

-- word i of block n
abbrev pub block_word : List ℕ → ℕ → ℕ → ℕ
block_word key n i = slice_index (BlockWords key n) i
