use Rattle.std.proofs.Common.{ap, length, arith}
use Rattle.crn_checkpoint.specs.CheckpointText.{checkpoint_rows}
use Rattle.crn_checkpoint.specs.Inner.Cells.{cell}
use Rattle.crn_checkpoint.proofs.read.scenario.policy_count.Goals as goal

pub returns : goal.returns
unfolding checkpoint_rows
returns c = λ v s next states h. c.natural_in.ensures (length s.policies) (omega (arith, h.ranges.scenario.others.few)) (ap (λ rows. cell rows 3 4) h.rows_are)
