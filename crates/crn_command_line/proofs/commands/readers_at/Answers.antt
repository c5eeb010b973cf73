use Rattle.crn_command_line.proofs.Texts.{too_large}
use Rattle.crn_command_line.proofs.commands.readers_at.Goals as goal

pub returns-in-Err-clause-refused : goal.returns-in-Err-clause-refused
returns-in-Err-clause-refused c n is =
    let number = c.in_ok-number_at.ensures.spelt in
    c.in-Err.ensures (too_large _ _ number.fits number.spelt n is)
