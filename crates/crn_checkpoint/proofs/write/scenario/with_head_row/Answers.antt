use Rattle.std.proofs.Common.{rules, ◌≡◌}
use Rattle.crn_checkpoint.proofs.write.scenario.with_head_row.Goals as goal

pub returns-clause-written : goal.returns-clause-written
returns-clause-written c =
    let m = c.args.model.now in
    let periods : c.from-periods.result ≡ m.periods = search rules in
    let replications : c.from-replications.result ≡ m.replications = search rules in
    rw (c.number.ensures, periods, replications) at c.with_numbers_row.ensures
