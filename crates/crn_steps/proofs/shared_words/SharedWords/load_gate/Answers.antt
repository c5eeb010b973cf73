use Rattle.std.proofs.Common.{rules, refl, arith}
use Rattle.crn_steps.proofs.Allowed.{loads_gate}
use Rattle.crn_steps.proofs.Bounds.{producer_goes}
use Rattle.crn_steps.proofs.shared_words.SharedWords.load_gate.Goals as goal

pub load-requires : goal.load-requires
load-requires c = let at = c.requires.may in let spec = c.args.self.now.spec in (
  search rules,
  omega (arith, c.args.self.now.counted),
  rw c.args.self.now.keyed (loads_gate _ _ _ _ c.requires.own.0.1 c.requires.own.1 c.args.r _ refl at c.requires.goes_on),
)

pub returns-clause-moved : goal.returns-clause-moved
returns-clause-moved c = producer_goes _ _ _ _ _ _ c.requires.own.0.1 c.load.ensures.2.0
