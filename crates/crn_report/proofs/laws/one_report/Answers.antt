use Rattle.crn_report.proofs.OneReport.{one_report}
use Rattle.crn_report.proofs.laws.one_report.Goals as goal

pub returns : goal.returns
returns c = one_report record { num = c.one_fraction.ensures.num; den = c.one_fraction.ensures.den }
