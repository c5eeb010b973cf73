use Rattle.std.proofs.Common.{◌≡◌, drop, map}
use Rattle.clap.specs.Words.{app_of}
use Rattle.crn_command_line.specs.Inner.Parsing.{shape_of_help}
use Rattle.crn_command_line.specs.Parsing.{with_commands}
use Rattle.crn_command_line.proofs.words.with_commands.Given as goal

abbrev pub invariant-items : goal.invariant-items
invariant-items l = with_commands (app_of l.whole) (map shape_of_help (drop l.help-index l.commands)) ≡ with_commands (app_of l.initial.whole) (map shape_of_help l.commands)
