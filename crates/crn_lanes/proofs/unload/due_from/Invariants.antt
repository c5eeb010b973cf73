use Rattle.std.proofs.Common.{◌≡◌, ℕ, ◌+◌, ◌%◌, ◌<◌, length, slice_index}
use Rattle.crn_lanes.specs.Inner.Lanes.{column}
use Rattle.crn_lanes.proofs.unload.due_from.Given as goal

abbrev pub invariant-loop-j : goal.invariant-loop-j
invariant-loop-j l = record {
  long : length l.due ≡ 32;
  each : (i : ℕ) → i < l.j → slice_index l.due i ≡ slice_index (column l.rows l.k) ((l.place + i) % 32);
}
