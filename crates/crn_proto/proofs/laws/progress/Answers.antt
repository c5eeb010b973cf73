use Rattle.crn_proto.proofs.Stores.{stores_are_bounded}
use Rattle.crn_proto.proofs.Turns.{progress_is_bounded, never_stuck, ends_by_rounds}
use Rattle.crn_proto.proofs.laws.progress.Goals as goal

pub returns : goal.returns
returns c = record {
  never_stuck = never_stuck;
  stores_are_bounded = stores_are_bounded;
  progress_is_bounded = progress_is_bounded;
  ends_by_rounds = ends_by_rounds;
}
