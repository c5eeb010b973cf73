-- Which command a name and the texts of its arguments are. `texts` gives the text of each argument by its name.
use Rattle.std.specs.Prelude.{◌≡◌, ◌<◌, ◌^◌, ◌⊎◌, ℕ, List, [], ◌∷◌, Option, Some, None, map, option_and_then, if◌then◌else◌, codes, decimal, string_bytes}
use Rattle.crn_spelling.specs.Hex.{is_hex_word, word_of}
use Rattle.crn_command_line.specs.declared.commands.Command.{Command}
use Rattle.crn_command_line.specs.declared.commands.Command.TheVariants as command
use Rattle.crn_command_line.specs.declared.fault.CommandLineFault.{CommandLineFault}
use Rattle.crn_command_line.specs.declared.fault.CommandLineFault.TheVariants as fault

abbrev pub Texts : Type 0
Texts = List ℕ → Option (List ℕ)

-- the argument is the decimal spelling of a number of so many bits, without a sign or leading zeros
pub record IsNumber (bits : ℕ) (text : Option (List ℕ)) (n : ℕ) : Type 0 where
  pub fits : n < 2 ^ bits
  pub spelt : text ≡ Some (decimal n)

-- the word of 64 bits that a text spells, if it is 16 digits of 0-9a-f
abbrev pub key_word_of : List ℕ → Option ℕ
key_word_of text = if is_hex_word text then Some (word_of text) else None

abbrev pub key_word_at : Texts → List ℕ → Option ℕ
key_word_at texts name = option_and_then key_word_of (texts name)

-- the four words of the key, each of which may be misspelt
abbrev pub key_at : Texts → List (Option ℕ)
key_at texts = key_word_at texts (codes "K0") ∷ key_word_at texts (codes "K1") ∷ key_word_at texts (codes "K2") ∷ key_word_at texts (codes "K3") ∷ []

pub record IsBlock (texts : Texts) (key : List ℕ) (n : ℕ) : Type 0 where
  pub words : key_at texts ≡ map Some key
  pub number : IsNumber 64 (texts (codes "N")) n

pub record IsRing (texts : Texts) (size readers total : ℕ) : Type 0 where
  pub slots : IsNumber 64 (texts (codes "SIZE")) size
  pub read_by : IsNumber 32 (texts (codes "READERS")) readers
  pub blocks : IsNumber 64 (texts (codes "TOTAL")) total

-- the name and the texts are this command
abbrev pub Names : List ℕ → Texts → Command → Type 0
Names name texts command.Run = name ≡ codes "run"
Names name texts command.Lanes = name ≡ codes "lanes"
Names name texts (command.Words key n) = (name ≡ codes "words") × IsBlock texts key n
Names name texts (command.Replay size readers total) = (name ≡ codes "replay") × IsRing texts size readers total
Names name texts (command.Leg n) = (name ≡ codes "leg") × IsNumber 64 (texts (codes "N")) n
Names name texts (command.Resume file) = (name ≡ codes "resume") × (texts (codes "FILE") ≡ Some (string_bytes file))
Names name texts (command.Migrate file) = (name ≡ codes "migrate") × (texts (codes "FILE") ≡ Some (string_bytes file))
Names name texts (command.Help _) = ⊥

-- the name and the texts are no command
abbrev pub NamesNone : List ℕ → Texts → Type 0
NamesNone name texts = (c : Command) → Names name texts c → ⊥

-- the name and the texts are a command with the name of a file
pub record NamesFile (name : List ℕ) (texts : Texts) : Type 0 where
  pub command : (name ≡ codes "resume") ⊎ (name ≡ codes "migrate")
  pub file : List ℕ
  pub given : texts (codes "FILE") ≡ Some file

-- what a refusal says: only a command with the name of a file, which is copied, can fail for an allocation
abbrev pub RefusesNamed : List ℕ → Texts → CommandLineFault → Type 0
RefusesNamed name texts fault.Words = NamesNone name texts
RefusesNamed name texts (fault.Memory _) = NamesFile name texts
