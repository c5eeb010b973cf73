use Rattle.std.proofs.Common.{◌∙◌, ◌+◌, ◌∷◌, ℕ, ap, sym, arith, take_all}
use Rattle.std.proofs.Math.ListN.{length-set}
use Rattle.crn_checkpoint.specs.CheckpointText.{due_rows}
use Rattle.crn_checkpoint.proofs.Dues.{turn}
use Rattle.crn_checkpoint.proofs.read.policy.due_of.Goals as goal

pub loop-k-preserved : goal.loop-k-preserved
loop-k-preserved c =
    let inv = c.loop-k.invariant in record {
      room = length-set c.loop-k.due c.loop-k.k c.amount_in-amount.result ∙ inv.room;
      reads = λ amounts long small e.
          turn c.args.period c.loop-k.k amounts c.loop-k.due _ _ c.amount_in-amount.result long inv.room c.loop-k-test.true c.requires small (inv.reads amounts long small e)
          (λ b more lt short is. c.amount_in-amount.ensures b more lt (omega (arith, c.from.ensures, short)) (is ∙ ap (λ (t : ℕ). due_rows (t + c.loop-k.k) (b ∷ more)) (sym c.from.ensures)))
          c.after_amount-rest.ensures;
    }

pub returns : goal.returns
returns c = λ amounts long small e.
    let inv = c.loop-k.invariant in
    sym (take_all c.loop-k.k c.loop-k.due (omega (arith, inv.room, c.loop-k-test.false))) ∙ (inv.reads amounts long small e).1 ∙ take_all c.loop-k.k amounts (omega (arith, long, c.loop-k-test.false))
