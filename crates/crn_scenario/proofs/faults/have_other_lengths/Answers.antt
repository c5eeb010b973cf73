use Rattle.std.proofs.Common.{rules}
use Rattle.crn_scenario.proofs.faults.have_other_lengths.Goals as goal

pub returns-in-Some-Some : goal.returns-in-Some-Some
returns-in-Some-Some c = search rules
