use Rattle.std.proofs.Common.{Some, ap, rules}
use Rattle.crn_command_line.specs.CommandLine.{key_at}
use Rattle.crn_command_line.specs.Inner.CommandLine.{texts_of}
use Rattle.crn_command_line.proofs.Texts.{if_none, misspelt}
use Rattle.crn_command_line.proofs.commands.key_at.Goals as goal

pub returns-in_err-key_word_at-clause-none : goal.returns-in_err-key_word_at-clause-none
returns-in_err-key_word_at-clause-none c =
    if_none _ _ (misspelt (key_at (texts_of c.args.words.now)) 0 (ap Some (search rules)))

pub returns-in_err-key_word_at-2-clause-none : goal.returns-in_err-key_word_at-2-clause-none
returns-in_err-key_word_at-2-clause-none c =
    if_none _ _ (misspelt (key_at (texts_of c.args.words.now)) 1 (ap Some (search rules)))

pub returns-in_err-key_word_at-3-clause-none : goal.returns-in_err-key_word_at-3-clause-none
returns-in_err-key_word_at-3-clause-none c =
    if_none _ _ (misspelt (key_at (texts_of c.args.words.now)) 2 (ap Some (search rules)))

pub returns-in_err-key_word_at-4-clause-none : goal.returns-in_err-key_word_at-4-clause-none
returns-in_err-key_word_at-4-clause-none c =
    if_none _ _ (misspelt (key_at (texts_of c.args.words.now)) 3 (ap Some (search rules)))
