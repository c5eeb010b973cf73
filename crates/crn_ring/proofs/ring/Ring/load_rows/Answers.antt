use Rattle.std.proofs.Common.{rules, ◌+◌, ◌*◌, ◌++◌, ℕ, List, ◌∙◌, arith, length-append}
use Rattle.std.proofs.lemmas.Grind.{common_steps}
use Rattle.crn_cipher.specs.declared.TheConstants.{BLOCK_WORDS}
use Rattle.crn_proto.specs.Ring.{ReaderMay, reader_after}
use Rattle.crn_proto.proofs.Chains.{reaches_join, reaches_more}
use Rattle.crn_ring.specs.Inner.Plays.{read_many}
use Rattle.crn_ring.proofs.Filling.{read_many_join, filled_more}
use Rattle.crn_steps.specs.Seats.{view_of}
use Rattle.crn_ring.proofs.ring.Ring.load_rows.Goals as goal

pub loop-k-preserved : goal.loop-k-preserved
loop-k-preserved c = let inv = c.loop-k.invariant in let ns : List ℕ = inv.2.0 in let ws : List ℕ = c.load_row-words.result in (
  search rules,
  search rules,
  (
    ns ++ ws,
    omega (arith, length-append ns ws, inv.2.1),
    c.load_row-words.ensures.view ∙ (λ i. (read_many ws (inv.2.2 i).0, (inv.2.2 i).1)) ∙ (λ i. (read_many_join ns ws (view_of c.args.seat.now) i, c.args.seat.now.me.1)),
  ),
  filled_more c.args.self.now.words.spec.id.key c.args.n c.loop-k.k c.loop-k.out _ c.from_words.ensures.key c.from_words.ensures.number inv.3,
  grind (arith, common_steps, inv.4),
  reaches_more ReaderMay reader_after _ _ (BLOCK_WORDS * c.loop-k.k + BLOCK_WORDS) (BLOCK_WORDS * (c.loop-k.k + 1)) (omega arith) (reaches_join ReaderMay reader_after _ _ _ (BLOCK_WORDS * c.loop-k.k) BLOCK_WORDS inv.5 c.load_row-words.ensures.moved),
)
