-- What is read piece by piece.
use Rattle.std.specs.Prelude.{◌≡◌, ℕ, ◌<◌, List, [], ◌++◌, length, Option, Bool, true, false}
use Rattle.std.specs.Io.KnownBytes.{Consumes, IsAtEnd}

-- one read whose bytes were appended to the input: some bytes where the input goes on, none where it has ended
pub record ReadMore (old new : Option (List ℕ)) (input input' : List ℕ) (more : Bool) : Type 0 where
  pub bytes : List ℕ
  pub taken : Consumes old new bytes
  pub grown : input' ≡ input ++ bytes
  pub some : more ≡ true → 0 < length bytes
  pub none : more ≡ false → (bytes ≡ []) × IsAtEnd new
