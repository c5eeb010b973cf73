use Rattle.crn_report.proofs.Costs.{no_fault}
use Rattle.crn_report.proofs.report_text.pair_of.Goals as goal

pub unreachable-requires : goal.unreachable-requires
unreachable-requires c =
    let none = no_fault c.args.costs.now c.args.base.now c.requires.count c.requires.some c.requires.few c.requires.costs c.requires.base in
    let some = c.in-Err.ensures.refused in
    cc
