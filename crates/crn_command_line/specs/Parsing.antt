-- The words of the command line, as `clap` reads them: the commands that it is told of, and what words mean by these.
use Rattle.std.specs.Prelude.{◌≡◌, ◌≢◌, ◌⊎◌, ⊤, List, [], ◌∷◌, Option, Some, None, codes, true}
use Rattle.clap.specs.Words.{App, IsAmong, Row, Rule, Shape, Text, fault_of, first_of, new_app, new_rule, subcommand_of, with_rule, with_subcommand}
use Rattle.clap.specs.declared.error.kind.ErrorKind.{ErrorKind}
use Rattle.clap.specs.declared.error.kind.ErrorKind.TheVariants as kind
use Rattle.crn_command_line.specs.CommandLine.{Names, RefusesNamed, Texts}
use Rattle.crn_command_line.specs.declared.commands.Command.{Command}
use Rattle.crn_command_line.specs.declared.commands.Command.TheVariants as command
use Rattle.crn_command_line.specs.declared.fault.CommandLineFault.{CommandLineFault}
use Rattle.crn_command_line.specs.declared.fault.CommandLineFault.TheVariants as fault

-- ---- the commands

-- an argument that has to be given, by its place
abbrev pub argument : Text → Rule
argument name = record (new_rule name) { required = true }

abbrev pub with_arguments : App → List Text → App
with_arguments a [] = a
with_arguments a (name ∷ names) = with_arguments (with_rule a (argument name)) names

abbrev pub with_commands : App → List Shape → App
with_commands a [] = a
with_commands a (s ∷ shapes) = with_commands (with_subcommand a s) shapes

abbrev pub command_with : Text → List Text → Shape
command_with name arguments = (with_arguments (new_app name) arguments).top

abbrev pub commands : List Shape
commands = command_with (codes "run") []
    ∷ command_with (codes "lanes") []
    ∷ command_with (codes "leg") (codes "N" ∷ [])
    ∷ command_with (codes "resume") (codes "FILE" ∷ [])
    ∷ command_with (codes "migrate") (codes "FILE" ∷ [])
    ∷ command_with (codes "words") (codes "K0" ∷ codes "K1" ∷ codes "K2" ∷ codes "K3" ∷ codes "N" ∷ [])
    ∷ command_with (codes "replay") (codes "SIZE" ∷ codes "READERS" ∷ codes "TOTAL" ∷ [])
    ∷ []

-- the program before its commands: the words have no name of a program
abbrev pub program : App
program = record { top = record (new_app (codes "crnsim")).top { no_binary_name = true }; subs = [] }

unfoldable pub crnsim : App
crnsim = with_commands program commands

-- ---- what words mean

-- the texts of the arguments that were found
abbrev pub texts_in : List Row → Texts
texts_in rows name = first_of name rows

-- the command that was found, with what was found of its arguments; where none was found, it is the report
abbrev pub FindsCommand : Option (Text × List Row) → Command → Type 0
FindsCommand None c = c ≡ command.Run
FindsCommand (Some found) c = Names found.0 (texts_in found.1) c

abbrev pub RefusesFound : Option (Text × List Row) → CommandLineFault → Type 0
RefusesFound None e = ⊥
RefusesFound (Some found) e = RefusesNamed found.0 (texts_in found.1) e

-- the words are parsed, and what is found is the command
pub record AreCommand (words : List Text) (c : Command) : Type 0 where
  pub parsed : fault_of crnsim words ≡ []
  pub finds : FindsCommand (subcommand_of crnsim words) c

abbrev pub IsHelp : Command → Type 0
IsHelp (command.Help _) = ⊤
IsHelp _ = ⊥

-- the words ask for help
pub record AskHelp (words : List Text) (c : Command) : Type 0 where
  pub asked : IsAmong kind.DisplayHelp (fault_of crnsim words)
  pub help : IsHelp c

-- the words are the command
abbrev pub AreRead : List Text → Command → Type 0
AreRead words c = AreCommand words c ⊎ AskHelp words c

-- the words are parsed, and what is found is no command
pub record AreNone (words : List Text) : Type 0 where
  pub parsed : fault_of crnsim words ≡ []
  pub refused : RefusesFound (subcommand_of crnsim words) fault.Words

-- the words are not parsed, and not for a request for help
pub record AreNotParsed (words : List Text) : Type 0 where
  pub why : ErrorKind
  pub found : IsAmong why (fault_of crnsim words)
  pub no_help : why ≢ kind.DisplayHelp

-- what a refusal says of the words: a failed allocation says nothing
abbrev pub RefusesWords : List Text → CommandLineFault → Type 0
RefusesWords words fault.Words = AreNone words ⊎ AreNotParsed words
RefusesWords words (fault.Memory _) = ⊤
