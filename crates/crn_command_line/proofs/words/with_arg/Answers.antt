use Rattle.std.proofs.Common.{rules}
use Rattle.crn_command_line.specs.Parsing.{argument}
use Rattle.crn_command_line.proofs.Parser.{arg_added}
use Rattle.crn_command_line.proofs.words.with_arg.Goals as goal

pub returns-clause-shape : goal.returns-clause-shape
returns-clause-shape c =
    arg_added c.arg.result c.args.command c.help.result (argument c.args.name.now) (search rules) (search rules) c.arg.ensures
