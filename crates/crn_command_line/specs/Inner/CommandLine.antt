-- The texts of a match.
use Rattle.std.specs.Prelude.{◌≡◌, ℕ, List, Option, Some, None}
use Rattle.clap.specs.Words.{found_of, rows_of}
use Rattle.clap.specs.declared.parser.matches.ArgMatches.{ArgMatches}
use Rattle.crn_command_line.specs.CommandLine.{Texts, IsNumber, IsBlock, IsRing}
use Rattle.crn_command_line.specs.Parsing.{texts_in}
use Rattle.crn_command_line.specs.declared.fault.CommandLineFault.{CommandLineFault}
use Rattle.crn_command_line.specs.declared.fault.CommandLineFault.TheVariants as fault

-- the texts of the arguments that `clap` found, by their names
abbrev pub texts_of : ArgMatches → Texts
texts_of m name = texts_in (rows_of (found_of m)) name

-- what a refusal of an argument says: it has no text, or one that is not of its kind
abbrev pub RefusesText : Option (List ℕ) → CommandLineFault → Type 0
RefusesText text fault.Words = text ≡ None
RefusesText text (fault.Memory _) = ⊥

abbrev pub RefusesFile : Option (List ℕ) → CommandLineFault → Type 0
RefusesFile text fault.Words = text ≡ None
RefusesFile text (fault.Memory _) = (file : List ℕ) × (text ≡ Some file)

abbrev pub RefusesNumber : ℕ → Option (List ℕ) → CommandLineFault → Type 0
RefusesNumber bits text fault.Words = (n : ℕ) → IsNumber bits text n → ⊥
RefusesNumber bits text (fault.Memory _) = ⊥

abbrev pub RefusesBlock : Texts → CommandLineFault → Type 0
RefusesBlock texts fault.Words = (key : List ℕ) → (n : ℕ) → IsBlock texts key n → ⊥
RefusesBlock texts (fault.Memory _) = ⊥

abbrev pub RefusesRing : Texts → CommandLineFault → Type 0
RefusesRing texts fault.Words = (size readers total : ℕ) → IsRing texts size readers total → ⊥
RefusesRing texts (fault.Memory _) = ⊥
