use Rattle.std.proofs.Common.{rules, subst, ◌≡◌, ℕ, ◌+◌, ◌*◌, ◌/◌, arith}
use Rattle.crn_cipher.specs.declared.TheConstants.{BLOCK_WORDS}
use Rattle.crn_proto.specs.Ring.{Publish}
use Rattle.crn_steps.proofs.Allowed.{publishes}
use Rattle.crn_steps.proofs.Bounds.{producer_goes}
use Rattle.crn_steps.specs.Plays.{by_producer}
use Rattle.crn_steps.specs.Seats.{producer_in, view_of}
use Rattle.crn_steps.proofs.shared_words.SharedWords.publish_upto.Goals as goal

pub store-requires : goal.store-requires
store-requires c = let at = c.requires.at in let p = producer_in c.args.seat.now in
    let stored : p.stored ≡ BLOCK_WORDS * c.args.count = at.1 in
    let upto : c.args.n ≡ p.published + c.args.count = at.3 in
    let whole : p.stored ≡ BLOCK_WORDS * (p.stored / BLOCK_WORDS) = omega arith in
    let value : 2 * c.args.n ≡ 2 * (p.published + p.stored / BLOCK_WORDS) = omega arith in (
      search rules,
      omega (arith, c.args.self.now.counted),
      rw c.args.self.now.keyed (publishes _ _ _ _ c.requires.own.0.1 c.requires.own.1 _ value (at.0, whole, omega arith)),
    )

pub returns-clause-moved : goal.returns-clause-moved
returns-clause-moved c = producer_goes _ _ _ _ _ _ c.requires.own.0.1 c.store.ensures.2

pub returns-clause-view : goal.returns-clause-view
returns-clause-view c = let p = producer_in c.args.seat.now in
    let stored : p.stored ≡ BLOCK_WORDS * c.args.count = c.requires.at.1 in
    let many : p.stored / BLOCK_WORDS ≡ c.args.count = omega arith in
    subst (λ (z : ℕ). c.store.new.seat.me ≡ (by_producer (Publish z) 0 (view_of c.args.seat.now), c.args.seat.now.me.1)) many c.store.ensures.2.view
