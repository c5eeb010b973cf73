use Rattle.std.proofs.Common.{rules}
use Rattle.crn_spelling.proofs.hex.is_hex_digit.Goals as goal

pub returns-in-48-to-57-2 : goal.returns-in-48-to-57-2
returns-in-48-to-57-2 c = search rules
