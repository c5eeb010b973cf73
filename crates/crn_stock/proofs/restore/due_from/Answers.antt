use Rattle.std.proofs.Common.{rules, ◌≡◌, ◌<◌, ◌+◌, ◌%◌, arith, length, slice_index, ◌∙◌}
use Rattle.std.proofs.Math.ListN.{length-set}
use Rattle.crn_stock.proofs.Due.{due_more, rotated_is}
use Rattle.crn_stock.proofs.restore.due_from.Goals as goal

pub loop-k-preserved : goal.loop-k-preserved
loop-k-preserved c =
    let inside : c.loop-k.k < 32 = search rules in
    let here : c.from.result ≡ slice_index c.args.amounts.now c.loop-k.k = search rules in
    record {
      long = length-set c.loop-k.due ((c.args.place + c.loop-k.k) % 32) c.from.result ∙ c.loop-k.invariant.long;
      filled = due_more c.loop-k.due c.args.amounts.now c.args.place c.loop-k.k c.from.result c.loop-k.invariant.long c.requires inside c.loop-k.invariant.filled here;
    }

pub returns-clause-shown : goal.returns-clause-shown
returns-clause-shown c =
    let amounts : length c.args.amounts.now ≡ 32 = search rules in
    rotated_is c.loop-k.due c.args.amounts.now c.args.place c.loop-k.invariant.long amounts c.requires (λ j lt. c.loop-k.invariant.filled j (omega (arith, lt, c.loop-k-test.false)))
