use Rattle.std.proofs.Common.{◌≡◌, ◌+ℤ◌, pos, sum}
use Rattle.crn_lanes.specs.Inner.Lanes.{IsRowOf, unbiased}
use Rattle.crn_lanes.specs.Inner.Groups.{OfSeat}
use Rattle.crn_lanes.proofs.load.lanes_of.Given as goal

abbrev pub invariant-loop-k : goal.invariant-loop-k
invariant-loop-k l = record {
  stock : IsRowOf (λ k x. OfSeat (λ i v. unbiased x ≡ v.stock) l.states k) l.k l.stock;
  position : IsRowOf (λ k x. OfSeat (λ i v. unbiased x ≡ v.stock +ℤ pos (sum v.due)) l.states k) l.k l.position;
  running : IsRowOf (λ k x. OfSeat (λ i v. x ≡ v.running) l.states k) l.k l.running;
}
