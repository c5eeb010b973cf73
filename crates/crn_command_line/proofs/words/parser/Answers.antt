use Rattle.std.proofs.Common.{◌≡◌, ◌∙◌, ap, true}
use Rattle.clap.specs.Words.{App, app_of}
use Rattle.clap.specs.Simple.{app_of_fields}
use Rattle.crn_command_line.specs.Parsing.{commands, crnsim, program, with_commands}
use Rattle.crn_command_line.proofs.Parser.{named}
use Rattle.crn_command_line.proofs.words.parser.Goals as goal

abbrev without_name : App → App
without_name a = record a { top = record a.top { no_binary_name = true } }

pub returns : goal.returns
unfolding crnsim
returns c =
    let headed : app_of c.after_help.result ≡ app_of c.new.result = ap app_of_fields c.after_help.ensures ∙ ap app_of_fields c.about.ensures in
    let begun : app_of c.no_binary_name-program.result ≡ program =
    ap app_of_fields c.no_binary_name-program.ensures ∙ ap without_name (headed ∙ c.new.ensures.app) in
    let added : app_of c.in_ok-with_commands.field-0 ≡ with_commands (app_of c.no_binary_name-program.result) commands = c.in_ok-with_commands.ensures in
    let whole : app_of c.in_ok-with_commands.field-0 ≡ crnsim = added ∙ ap (λ (a : App). with_commands a commands) begun in
    named c.bin_name.result c.in_ok-with_commands.field-0 _ crnsim c.bin_name.ensures whole
