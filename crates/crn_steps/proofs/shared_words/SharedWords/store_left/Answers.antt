use Rattle.std.proofs.Common.{rules, ap, sym, ◌+◌, length, arith}
use Rattle.crn_steps.proofs.Allowed.{stores_left}
use Rattle.crn_steps.proofs.Bounds.{reader_goes}
use Rattle.crn_steps.proofs.shared_words.SharedWords.store_left.Goals as goal

pub store-requires : goal.store-requires
store-requires c = let at = c.requires.at in let spec = c.args.self.now.spec in (
  search rules,
  omega (arith, c.args.self.now.counted),
  rw c.args.self.now.keyed (stores_left _ _ _ _ c.requires.own.0.1 c.requires.own.1 _ (ap (λ z. 1 + z) (sym at.2)) (at.0, ap length at.1)),
)

pub returns-clause-moved : goal.returns-clause-moved
returns-clause-moved c = reader_goes _ _ _ _ _ c.store.ensures.2
