use Rattle.std.proofs.Common.{rules, ap, length, arith}
use Rattle.crn_steps.proofs.Allowed.{loads_cursor}
use Rattle.crn_steps.proofs.Bounds.{reader_goes}
use Rattle.crn_steps.proofs.shared_words.SharedWords.load_cursor.Goals as goal

pub load-requires : goal.load-requires
load-requires c = let at = c.requires.at in let spec = c.args.self.now.spec in (
  search rules,
  omega (arith, c.args.self.now.counted),
  rw c.args.self.now.keyed (loads_cursor _ _ _ _ c.requires.own.0.1 c.requires.own.1 (at.0, at.1, ap length at.2) c.requires.goes_on),
)

pub returns-clause-moved : goal.returns-clause-moved
returns-clause-moved c = reader_goes _ _ _ _ _ c.load.ensures.2.0
