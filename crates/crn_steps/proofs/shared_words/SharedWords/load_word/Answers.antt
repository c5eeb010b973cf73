use Rattle.std.proofs.Common.{rules, ◌∙◌, subst, ◌<◌, ℕ, arith}
use Rattle.crn_proto.specs.Ring.{place}
use Rattle.crn_steps.proofs.Allowed.{loads_word}
use Rattle.crn_steps.proofs.Bounds.{reader_goes}
use Rattle.crn_steps.proofs.Rows.{place_from}
use Rattle.crn_steps.specs.Seats.{reader_in}
use Rattle.crn_steps.proofs.shared_words.SharedWords.load_word.Goals as goal

pub load-requires : goal.load-requires
load-requires c = let at = c.requires.at in let spec = c.args.self.now.spec in (
  search rules,
  (let room = c.requires.base.1 in let i = at.2 in omega (arith, c.args.self.now.counted)),
  rw c.args.self.now.keyed (loads_word _ _ _ _ c.requires.own.0.1 c.requires.own.1 _ (place_from spec c.args.n c.args.i c.args.base c.requires.base.0 ∙ (λ i. place spec (at.1 i) (at.2 i))) (at.0, subst (λ (z : ℕ). z < (reader_in c.args.seat.now).seen) at.1 at.3)),
)

pub returns-clause-moved : goal.returns-clause-moved
returns-clause-moved c = reader_goes _ _ _ _ _ c.load.ensures.2.0
