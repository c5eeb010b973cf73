use Rattle.std.proofs.Common.{map, string_bytes}
use Rattle.crn_command_line.proofs.Parser.{kinds_found, rows_found}
use Rattle.crn_command_line.proofs.words.matches_of.Goals as goal

pub returns-clause-found : goal.returns-clause-found
returns-clause-found c =
    rows_found c.try_get_matches_from.result c.in_ok-parser.field-0 (map string_bytes c.args.words.now) c.in_ok-parser.ensures c.try_get_matches_from.ensures.matches

pub returns-clause-kinds : goal.returns-clause-kinds
returns-clause-kinds c =
    kinds_found c.try_get_matches_from.result c.in_ok-parser.field-0 (map string_bytes c.args.words.now) c.in_ok-parser.ensures c.try_get_matches_from.ensures.kinds
