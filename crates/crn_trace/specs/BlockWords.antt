-- The text of a block's words.
use Rattle.std.specs.Prelude.{ℕ, List, [], ◌∷◌, ◌++◌, codes}
use Rattle.crn_cipher.specs.declared.stream.Stream.{Stream}
use Rattle.crn_cipher.specs.Blocks.{StreamWords, name_of, streams}
use Rattle.crn_spelling.specs.Hex.{hex_word}

-- each word in hexadecimal, with a space before it
abbrev pub spaced : List ℕ → List ℕ
spaced [] = []
spaced (w ∷ ws) = 32 ∷ hex_word w ++ spaced ws

-- a line for a stream's words in block n of a key: its name, and the words
abbrev pub stream_line : List ℕ → ℕ → Stream → List ℕ
stream_line key n s = name_of s ++ spaced (StreamWords key n s) ++ codes "\n"

abbrev pub stream_lines : List ℕ → ℕ → List Stream → List ℕ
stream_lines key n [] = []
stream_lines key n (s ∷ ss) = stream_line key n s ++ stream_lines key n ss

-- a line for each stream of block n
unfoldable pub words_text : List ℕ → ℕ → List ℕ
words_text key n = stream_lines key n streams
