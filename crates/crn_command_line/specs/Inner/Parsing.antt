-- The table of the help, as the commands of `clap`.
use Rattle.std.specs.Prelude.{List, map}
use Rattle.clap.specs.Words.{Shape, Text, new_app}
use Rattle.crn_command_line.specs.Parsing.{with_arguments}
use Rattle.crn_command_line.specs.declared.commands.CommandHelp.{CommandHelp}

-- the names of its arguments
abbrev pub arguments_of : CommandHelp → List Text
arguments_of help = map (λ a. a.0.now) help.args.now

abbrev pub shape_of_help : CommandHelp → Shape
shape_of_help help = (with_arguments (new_app help.name.now) (arguments_of help)).top
