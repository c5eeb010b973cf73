use Rattle.std.proofs.Common.{map, string_bytes}
use Rattle.crn_command_line.proofs.Parsing.{not_parsed}
use Rattle.crn_command_line.proofs.words.read_words.Goals as goal

pub returns-clause-refused : goal.returns-clause-refused
returns-clause-refused c =
    not_parsed (map string_bytes c.args.words.now) c.in-Err.answer c.answered.result c.in-Err.ensures.kinds c.answered.ensures.refused
