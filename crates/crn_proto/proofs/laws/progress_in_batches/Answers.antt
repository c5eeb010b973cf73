use Rattle.crn_proto.proofs.BatchRounds.{can_go_on, batches_never_stick, batches_end_by_rounds}
use Rattle.crn_proto.proofs.laws.progress_in_batches.Goals as goal

pub returns : goal.returns
returns c = record {
  can_go_on = can_go_on;
  never_stick = batches_never_stick;
  end_by_rounds = batches_end_by_rounds;
}
