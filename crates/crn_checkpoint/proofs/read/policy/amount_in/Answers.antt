use Rattle.std.proofs.Common.{◌<◌, length, rules}
use Rattle.crn_checkpoint.proofs.Dues.{amount_read}
use Rattle.crn_checkpoint.proofs.read.policy.amount_in.Goals as goal

pub returns : goal.returns
returns c = λ a amounts lt small e.
    let some : 0 < length c.args.rows.now = search rules in
    amount_read a c.args.period amounts c.args.rows.now _ _ _ _ some lt small e c.natural_in.ensures c.natural_in-2.ensures c.if-natural_in-period.false c.from.ensures c.min.ensures
