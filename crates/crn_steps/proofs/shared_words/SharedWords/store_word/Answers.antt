use Rattle.std.proofs.Common.{rules, ◌∙◌, subst, ◌<◌, ℕ, arith}
use Rattle.crn_cipher.specs.Blocks.{block_word}
use Rattle.crn_proto.specs.Ring.{PassesGates, place}
use Rattle.crn_steps.proofs.Allowed.{stores_word}
use Rattle.crn_steps.proofs.Bounds.{producer_goes}
use Rattle.crn_steps.proofs.Rows.{place_from}
use Rattle.crn_steps.specs.Seats.{producer_in}
use Rattle.crn_steps.proofs.shared_words.SharedWords.store_word.Goals as goal

pub store-requires : goal.store-requires
store-requires c = let at = c.requires.at in let spec = c.args.self.now.spec in (
  search rules,
  (let room = c.requires.base.1 in let i = at.2 in omega (arith, c.args.self.now.counted)),
  rw c.args.self.now.keyed (stores_word _ _ _ _ c.requires.own.0.1 c.requires.own.1 _ _ (place_from spec c.args.n c.args.i c.args.base c.requires.base.0 ∙ (λ i. place spec (at.1 i) (at.2 i))) (c.requires.word ∙ (λ i. block_word spec.id.key (at.1 i) (at.2 i)))
      (at.0, subst (λ (z : ℕ). z < spec.id.total) at.1 c.requires.below, subst (PassesGates spec (producer_in c.args.seat.now)) at.1 c.requires.room) c.requires.goes_on),
)

pub returns-clause-moved : goal.returns-clause-moved
returns-clause-moved c = producer_goes _ _ _ _ _ _ c.requires.own.0.1 c.store.ensures.2
