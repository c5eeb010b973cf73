use Rattle.std.proofs.Common.{◌≡◌, ℕ, Some, slice_get, refl, subst, arith, inl, inr}
use Rattle.std.proofs.lemmas.Bool.{cases_eq}
use Rattle.std.proofs.lemmas.Option.{slice_get_read, slice_get_within}
use Rattle.crn_sequential.proofs.Running.{same_of}
use Rattle.crn_lanes.specs.Inner.Groups.{IsInLimits}
use Rattle.crn_lanes.proofs.load.know_limits.Goals as goal

pub loop-i-preserved : goal.loop-i-preserved
loop-i-preserved c j v lt e = elim (cases_eq j c.loop-i.i) [
  | inl same ↦
      let x = c.index-states-i.result in
      let known : IsInLimits x = record { range = c.costs.ensures.range; periods = c.costs.ensures.periods } in
      let read = slice_get_read c.args.states.now _ c.loop-i.i x refl c.loop-i-test.true c.index-states-i.is in
      subst IsInLimits (same_of (slice_get c.args.states.now c.loop-i.i) x v read (subst (λ (i : ℕ). slice_get c.args.states.now i ≡ Some v) same e)) known
  | inr other ↦ c.loop-i.invariant j v (omega (arith, lt, other)) e
]

pub returns : goal.returns
returns c i v e = c.loop-i.invariant i v (omega (arith, slice_get_within c.args.states.now i v e, c.loop-i-test.false)) e
