use Rattle.std.proofs.Common.{◌-◌, ◌≤◌, ◌<◌, length}
use Rattle.crn_draw.specs.Inner.Runs.{start_at}
use Rattle.crn_draw.proofs.runs.index_of.Given as goal

abbrev pub invariant-loop-index : goal.invariant-loop-index
invariant-loop-index l = record {
  onward : l.from ≤ l.index;
  inside : l.index < length l.runs;
  begun : start_at l.runs l.index ≤ l.place;
}

abbrev pub decreases-loop-index : goal.decreases-loop-index
decreases-loop-index l = length l.runs - l.index
