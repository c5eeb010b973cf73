use Rattle.std.proofs.Common.{◌≡◌, ℕ, ◌+◌, ◌%◌, ◌<◌, length, slice_index}
use Rattle.crn_lanes.specs.Inner.Lanes.{column}
use Rattle.crn_lanes.specs.Inner.Groups.{OfSeat}
use Rattle.crn_lanes.proofs.load.due_of.Given as goal

abbrev pub invariant-loop-j : goal.invariant-loop-j
invariant-loop-j l = record {
  long : length l.due ≡ 32;
  each : (k : ℕ) → k < 16 → OfSeat (λ i v. (h : ℕ) → h < l.j → slice_index (column l.due i) ((l.place + h) % 32) ≡ slice_index v.due h) l.states k;
}
