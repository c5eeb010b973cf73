use Rattle.std.proofs.Common.{◌+◌, ◌-◌, slice_index}
use Rattle.crn_lanes.specs.Inner.Lanes.{IsRow}
use Rattle.crn_lanes.proofs.arithmetic.changed.Given as goal

abbrev pub invariant-loop-k : goal.invariant-loop-k
invariant-loop-k l = IsRow (λ k. slice_index l.amounts k + slice_index l.ups k + l.up - l.down) l.k l.after
