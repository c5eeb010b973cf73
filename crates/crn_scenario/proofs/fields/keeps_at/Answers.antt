use Rattle.std.proofs.Common.{rules}
use Rattle.crn_scenario.proofs.fields.keeps_at.Goals as goal

pub returns-in-Present-default : goal.returns-in-Present-default
returns-in-Present-default c = search rules
