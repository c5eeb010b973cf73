use Rattle.std.proofs.Common.{ap}
use Rattle.clap.specs.Words.{App}
use Rattle.crn_command_line.specs.Inner.Parsing.{shape_of_help}
use Rattle.crn_command_line.proofs.Parser.{command_added}
use Rattle.crn_command_line.proofs.words.with_command.Goals as goal

pub returns : goal.returns
returns c =
    let command = c.in_ok-command in
    command_added c.subcommand.result c.args.program command.command (shape_of_help c.args.help.now) command.ensures.local
    (ap (λ (a : App). a.top) command.ensures.shape) c.subcommand.ensures
