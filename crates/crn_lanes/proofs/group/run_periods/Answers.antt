use Rattle.std.proofs.Common.{◌≡◌, ℕ, ◌+◌, ◌<◌, slice_index, subst, arith}
use Rattle.crn_stock.specs.Models.{has_returns}
use Rattle.crn_stock.specs.Inner.Steps.{drawn_from}
use Rattle.crn_stock.specs.declared.model.Costs.{Costs}
use Rattle.crn_lanes.specs.Inner.Lanes.{HaveRun, HasRunOne, due_at}
use Rattle.crn_lanes.proofs.Periods.{at_weaker}
use Rattle.crn_lanes.proofs.Runs.{have_none, have_more}
use Rattle.crn_lanes.proofs.group.run_periods.Goals as goal

pub run_one-requires-clause-lanes : goal.run_one-requires-clause-lanes
run_one-requires-clause-lanes c k lt =
    let x = c.loop-k.lanes in
    at_weaker (has_returns c.args.model.now) (c.args.period + c.loop-k.k) (slice_index x.stock k) (slice_index x.position k) (slice_index x.running k) (due_at x k) (c.loop-k.invariant.kept k lt)

pub loop-k-init : goal.loop-k-init
loop-k-init c = have_none c.args.levels.now c.args.model.now.costs (drawn_from c.args.model.now c.args.block.now) (has_returns c.args.model.now) c.args.period c.args.lanes.now c.requires.lanes

pub loop-k-preserved : goal.loop-k-preserved
loop-k-preserved c =
    let m = c.args.model.now in
    let f = drawn_from m c.args.block.now in
    let one : (k : ℕ) → k < 16 → HasRunOne c.args.levels.now m.costs (c.args.period + c.loop-k.k) c.draw-drawn.result c.loop-k.lanes c.run_one.new.lanes k = λ k lt.
    subst (λ (q : Costs). HasRunOne c.args.levels.now q (c.args.period + c.loop-k.k) c.draw-drawn.result c.loop-k.lanes c.run_one.new.lanes k) c.costs-costs.ensures.value (c.run_one.ensures k lt) in
    have_more c.args.levels.now m.costs f (has_returns m) c.args.period c.args.lanes.now c.loop-k.k c.loop-k.lanes c.run_one.new.lanes c.draw-drawn.result
    c.loop-k.invariant c.draw-drawn.ensures.value c.draw-drawn.ensures.none one

pub returns : goal.returns
returns c =
    let m = c.args.model.now in
    let all : c.loop-k.k ≡ c.args.count = omega (arith, c.loop-k-test.false, c.loop-k.auto.k-end) in
    subst (λ (n : ℕ). HaveRun c.args.levels.now m.costs (drawn_from m c.args.block.now) (has_returns m) c.args.period n c.args.lanes.now c.loop-k.lanes) all c.loop-k.invariant
