use Rattle.std.proofs.Common.{IfErr, List, Option, subst, sym, box_value}
use Rattle.clap.specs.Words.{Row, Text, found_of, rows_of}
use Rattle.clap.specs.declared.parser.matches.ArgMatches.TheViews.{out-ArgMatches, out-SubCommand}
use Rattle.crn_command_line.specs.Parsing.{RefusesFound}
use Rattle.crn_command_line.proofs.Found.{named_rows}
use Rattle.crn_command_line.proofs.words.command_of.Goals as goal

pub returns-in-Some-clause-refused : goal.returns-in-Some-clause-refused
returns-in-Some-clause-refused c =
    let met = (out-ArgMatches c.args.matches.now).subcommand in
    let same = named_rows met (λ b. (out-SubCommand (box_value b)).name.now) (λ b. rows_of (found_of (out-SubCommand (box_value b)).matches))
    c.in-Some.name.now (rows_of (found_of c.in-Some.words.now)) c.in-Some.ensures.name c.in-Some.ensures.rows in
    subst (λ (o : Option (Text × List Row)). IfErr c.command_named.result (λ e. RefusesFound o e)) (sym same) c.command_named.ensures.refused
