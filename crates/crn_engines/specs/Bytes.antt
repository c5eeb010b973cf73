-- What is read from a reader, and what is written to a writer, where they tell their bytes.
use Rattle.std.specs.Prelude.{ℕ, ◌<◌, ◌≤◌, List, length, take, Option}
use Rattle.std.specs.Io.KnownBytes.{Appends, Consumes, IsAtEnd}
use Rattle.crn_engines.specs.declared.input.TheConstants.{INPUT_LIMIT}

-- the writer's bytes grow by a prefix of the text, which may be empty or the whole
abbrev pub AppendsFront : Option (List ℕ) → Option (List ℕ) → List ℕ → Type 0
AppendsFront old new text = (k : ℕ) × Appends old new (take k text)

-- the input is all that the reader had left, and is not over the limit
pub record ReadAll (old new : Option (List ℕ)) (input : List ℕ) : Type 0 where
  pub taken : Consumes old new input
  pub at_end : IsAtEnd new
  pub short : length input ≤ INPUT_LIMIT

-- there was more than the limit
pub record ReadTooMuch (old new : Option (List ℕ)) : Type 0 where
  pub bytes : List ℕ
  pub taken : Consumes old new bytes
  pub long : INPUT_LIMIT < length bytes

-- just a text that was made was written
pub record Wrote (Made : List ℕ → Type 0) (held held' : Option (List ℕ)) : Type 0 where
  pub text : List ℕ
  pub made : Made text
  pub written : Appends held held' text

-- a prefix of a text that was made was written
pub record WroteFrontOf (Made : List ℕ → Type 0) (held held' : Option (List ℕ)) : Type 0 where
  pub text : List ℕ
  pub made : Made text
  pub written : AppendsFront held held' text
