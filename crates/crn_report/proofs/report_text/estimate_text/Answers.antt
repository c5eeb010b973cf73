use Rattle.std.proofs.Common.{rules}
use Rattle.crn_report.proofs.report_text.estimate_text.Goals as goal

pub returns-in-None-clause-text : goal.returns-in-None-clause-text
returns-in-None-clause-text c = search rules
