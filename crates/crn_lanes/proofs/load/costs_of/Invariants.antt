use Rattle.std.proofs.Common.{◌≡◌, ℕ, ◌<◌, ◌≤◌, length, take, vec_capacity}
use Rattle.crn_lanes.specs.Inner.Lanes.{column}
use Rattle.crn_lanes.specs.Inner.Groups.{OfSeat}
use Rattle.crn_lanes.proofs.load.costs_of.Given as goal

abbrev pub invariant-loop-r : goal.invariant-loop-r
invariant-loop-r l = record {
  count : length l.rows.items ≡ l.r;
  room : l.fn.replications ≤ vec_capacity l.rows;
  each : (k : ℕ) → k < 16 → OfSeat (λ j v. column l.rows.items j ≡ take l.r v.costs) l.states k;
}
