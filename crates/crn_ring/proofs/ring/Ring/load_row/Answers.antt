use Rattle.std.proofs.Common.{rules, ◌≡◌, arith}
use Rattle.std.proofs.lemmas.Grind.{common_steps}
use Rattle.crn_cipher.specs.declared.TheConstants.{BLOCK_WORDS}
use Rattle.crn_proto.specs.Ring.{ReaderMay, reader_after}
use Rattle.crn_proto.proofs.Chains.{reaches_join}
use Rattle.crn_ring.proofs.Rows.{whole_row}
use Rattle.crn_ring.proofs.ring.Ring.load_row.Goals as goal

pub returns-clause-words : goal.returns-clause-words
returns-clause-words c = let inv = c.loop-i.invariant in let e : c.loop-i.i ≡ BLOCK_WORDS = omega arith in
    whole_row c.args.self.now.words.spec.id.key c.args.n c.loop-i.words inv.2 (λ j few. inv.4 j (omega arith))

pub loop-i-preserved : goal.loop-i-preserved
loop-i-preserved c = let inv = c.loop-i.invariant in (
  search rules,
  search rules,
  search rules,
  grind (arith, common_steps),
  grind (arith, common_steps, inv.4),
  reaches_join ReaderMay reader_after _ _ _ c.loop-i.i 1 inv.5 c.load_word.ensures.moved,
)

pub returns-clause-view : goal.returns-clause-view
returns-clause-view c = grind (arith, common_steps)

pub load_word-requires-clause-at : goal.load_word-requires-clause-at
load_word-requires-clause-at c = grind (arith, common_steps)
