use Rattle.std.proofs.Common.{rules}
use Rattle.crn_checkpoint.proofs.Rows.{version_read, version_small, is_first, is_second, is_some_version}
use Rattle.crn_checkpoint.proofs.read.scenario.version_of.Goals as goal

pub returns-in-1 : goal.returns-in-1
returns-in-1 c = λ v s next states h. is_first v c.natural_in.result (c.natural_in.ensures _ (version_small v) (version_read v s next states c.args.rows.now h)) (search rules)

pub returns-in-2 : goal.returns-in-2
returns-in-2 c = λ v s next states h. is_second v c.natural_in.result (c.natural_in.ensures _ (version_small v) (version_read v s next states c.args.rows.now h)) (search rules)

pub returns-in_default : goal.returns-in_default
returns-in_default c = λ v s next states h. absurd (is_some_version v c.natural_in.result (c.natural_in.ensures _ (version_small v) (version_read v s next states c.args.rows.now h)) (search rules) (search rules))
