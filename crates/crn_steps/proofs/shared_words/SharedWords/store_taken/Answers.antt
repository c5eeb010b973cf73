use Rattle.std.proofs.Common.{rules, ap, sym, subst, ◌≡◌, ℕ, ◌+◌, ◌*◌, ◌/◌, length, arith}
use Rattle.crn_cipher.specs.declared.TheConstants.{BLOCK_WORDS}
use Rattle.crn_proto.specs.Ring.{Take}
use Rattle.crn_steps.proofs.Allowed.{stores_taken}
use Rattle.crn_steps.proofs.Bounds.{reader_goes}
use Rattle.crn_steps.specs.Plays.{by_reader}
use Rattle.crn_steps.specs.Seats.{reader_in, view_of}
use Rattle.crn_steps.proofs.shared_words.SharedWords.store_taken.Goals as goal

pub store-requires : goal.store-requires
store-requires c = let at = c.requires.at in let q = reader_in c.args.seat.now in
    let read : length q.read ≡ BLOCK_WORDS * c.args.count = c.requires.whole.0 in
    let upto : c.args.n ≡ q.taken + c.args.count = c.requires.whole.2 in
    let whole : length q.read ≡ BLOCK_WORDS * (length q.read / BLOCK_WORDS) = omega arith in
    let value : c.args.n ≡ q.taken + length q.read / BLOCK_WORDS = omega arith in (
      search rules,
      omega (arith, c.args.self.now.counted),
      rw c.args.self.now.keyed (stores_taken _ _ _ _ c.requires.own.0.1 c.requires.own.1 _ _ (ap (λ z. 1 + z) (sym at.1)) value (at.0, whole, omega arith)),
    )

pub returns-clause-moved : goal.returns-clause-moved
returns-clause-moved c = reader_goes _ _ _ _ _ c.store.ensures.2

pub returns-clause-view : goal.returns-clause-view
returns-clause-view c = let q = reader_in c.args.seat.now in
    let read : length q.read ≡ BLOCK_WORDS * c.args.count = c.requires.whole.0 in
    let many : length q.read / BLOCK_WORDS ≡ c.args.count = omega arith in
    subst (λ (z : ℕ). c.store.new.seat.me ≡ (by_reader (Take z) 0 (view_of c.args.seat.now), c.args.seat.now.me.1)) many c.store.ensures.2.view
