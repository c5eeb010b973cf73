use Rattle.std.proofs.Common.{rules}
use Rattle.crn_report.proofs.report_text.figures_of.Goals as goal

pub returns : goal.returns
returns c = search rules
