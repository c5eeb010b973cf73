use Rattle.std.proofs.Common.{◌≡◌, ℕ, ◌+◌, ◌*◌, ◌≤◌, List, sym, ap, subst, ◌∙◌, arith}
use Rattle.std.specs.Prelude.{slice_index, slice_get, Some}
use Rattle.std.proofs.lemmas.Option.{slice_get-get_or}
use Rattle.crn_cipher.specs.declared.TheConstants.{BLOCK_WORDS}
use Rattle.crn_proto.specs.Ring.{ProducerMay, StoreWord, producer_after}
use Rattle.crn_proto.proofs.Chains.{reaches_join, reaches_more}
use Rattle.crn_ring.specs.Inner.Plays.{wrote_many}
use Rattle.crn_ring.proofs.Filling.{stores_on, wrote_many_join}
use Rattle.crn_steps.specs.declared.view.View.{View}
use Rattle.crn_steps.specs.Plays.{ProducerGoesOn}
use Rattle.crn_steps.specs.Seats.{producer_in, view_of}
use Rattle.crn_ring.proofs.ring.Ring.store_rows.Goals as goal

pub store_row-requires-clause-goes_on : goal.store_row-requires-clause-goes_on
store_row-requires-clause-goes_on c = let spec = c.args.self.now.words.spec in
    subst (λ (v : View). ProducerGoesOn spec v.producer v.passed StoreWord) (sym (ap (λ m. m.0) c.loop-k.invariant.2)) (stores_on spec (BLOCK_WORDS * c.loop-k.k) (view_of c.args.seat.now) c.requires.goes_on)

pub store_row-requires-clause-room : goal.store_row-requires-clause-room
store_row-requires-clause-room c = λ r h ne.
    let k : ℕ = c.loop-k.k in let few = c.requires.blocks.0 in let inside = c.loop-k-test.true in
    let old : List ℕ = (producer_in c.args.seat.now).gates in
    let gate : slice_index (producer_in c.loop-k.seat).gates r ≡ slice_index old r = ap (λ m. slice_index m.0.producer.gates r) c.loop-k.invariant.2 in
    let at : slice_get c.args.blocks.now k ≡ Some c.index-blocks-k.result =
    slice_get-get_or c.args.blocks.now k c.index-blocks-k.result (omega arith) ∙ ap Some (sym c.index-blocks-k.is) in
    let number = (c.requires.blocks.1 k c.index-blocks-k.result (omega arith) at).1 in
    let low : (producer_in c.args.seat.now).published + c.args.count ≤ slice_index old r + c.args.self.now.words.spec.size = c.requires.room r h (λ e. ne (gate ∙ e)) in
    omega arith

pub loop-k-preserved : goal.loop-k-preserved
loop-k-preserved c = let inv = c.loop-k.invariant in let e = c.store_row.ensures in let k : ℕ = c.loop-k.k in
    let more : BLOCK_WORDS * k + BLOCK_WORDS ≡ BLOCK_WORDS * (k + 1) = omega arith in
    let v = c.args.seat.now.me in (
      e.own.0 ∙ inv.0,
      e.own.1 ∙ inv.1,
      e.view ∙ (λ i. (wrote_many BLOCK_WORDS (inv.2 i).0, (inv.2 i).1)) ∙ (λ i. (wrote_many_join (BLOCK_WORDS * k) BLOCK_WORDS v.0 i, v.1)) ∙ (λ i. (wrote_many (more i) v.0, v.1)),
      reaches_more (ProducerMay c.args.self.now.words.spec) producer_after _ _ (BLOCK_WORDS * k + BLOCK_WORDS) (BLOCK_WORDS * (k + 1)) (omega arith)
          (reaches_join (ProducerMay c.args.self.now.words.spec) producer_after _ _ _ (BLOCK_WORDS * k) BLOCK_WORDS inv.3 e.moved),
    )
