use Rattle.std.proofs.Common.{◌≡◌, ◌∙◌, ℕ, ◌*◌, ◌%◌, ◌/◌, ◌<◌, ◌≤◌, [], All, length, Some, slice_get, get_or, sum, sym, ap, subst, arith}
use Rattle.std.proofs.lemmas.Option.{slice_get-get_or}
use Rattle.crn_stock.specs.Parts.{Parts}
use Rattle.crn_stock.specs.Models.{has_returns}
use Rattle.crn_stock.specs.declared.limits.TheConstants.{PERIOD_COST_LIMIT}
use Rattle.crn_stock.proofs.Steps.{sum-rotated, first_period-high}
use Rattle.crn_lanes.specs.Inner.Groups.{seat, with_costs, IsInLimits, IsLoaded}
use Rattle.crn_sequential.specs.Runs.{StandsBefore}
use Rattle.crn_lanes.specs.Inner.Lanes.{due_at}
use Rattle.crn_lanes.proofs.Seats.{seat_within}
use Rattle.crn_lanes.proofs.Loaded.{place_of, loaded_lane, loaded_is}
use Rattle.crn_lanes.proofs.load.group_of.Goals as goal

pub costs_of-requires-clause-done : goal.costs_of-requires-clause-done
costs_of-requires-clause-done c i v e =
    (place_of c.args.model.now c.args.next v (c.requires.stand i v e) (c.requires.limits i v e).range.period_high).1
    ∙ ap (λ (b : ℕ). c.args.next / b) (sym c.blocks_per_replication-blocks.ensures.value)

pub returns-clause-lanes : goal.returns-clause-lanes
returns-clause-lanes c k lt v e =
    let m = c.args.model.now in
    let i = seat (length c.args.states.now) k in
    let stands = c.requires.stand i v e in
    let t = 4 * (c.args.next % c.blocks_per_replication-blocks.result) in
    let at : v.period ≡ t = (place_of m c.args.next v stands (c.requires.limits i v e).range.period_high).0 ∙ ap (λ (b : ℕ). 4 * (c.args.next % b)) (sym c.blocks_per_replication-blocks.ensures.value) in
    loaded_is m t c.lanes_of.result k _ v stands.of_model at (c.in_ok-costs_of.ensures.rows k lt v e) (c.lanes_of.ensures k lt v e)

pub returns-clause-group : goal.returns-clause-group
returns-clause-group c =
    let m = c.args.model.now in
    let xs = c.args.states.now in
    let n = length xs in
    let size = c.blocks_per_replication-blocks.ensures.value in
    let t = 4 * (c.args.next % c.blocks_per_replication-blocks.result) in
    let x = c.lanes_of.result in
    let v : ℕ → Parts = λ k. get_or xs (seat n k) (with_costs m []) in
    let read : (k : ℕ) → slice_get xs (seat n k) ≡ Some (v k) = λ k. slice_get-get_or xs (seat n k) (with_costs m []) (seat_within n k c.requires.some) in
    let limits : (k : ℕ) → IsInLimits (v k) = λ k. c.requires.limits (seat n k) (v k) (read k) in
    let stands : (k : ℕ) → StandsBefore m c.args.next (v k) = λ k. c.requires.stand (seat n k) (v k) (read k) in
    let loaded : (k : ℕ) → k < 16 → IsLoaded (t % 32) x k (v k) = λ k lt. c.lanes_of.ensures k lt (v k) (read k) in
    let at : (k : ℕ) → (v k).period ≡ t = λ k. (place_of m c.args.next (v k) (stands k) (limits k).range.period_high).0 ∙ ap (λ (b : ℕ). 4 * (c.args.next % b)) (sym size) in
    record {
      period_high = subst (λ (b : ℕ). 4 * (c.args.next % b) < m.periods) (sym size) (first_period-high m c.args.next c.periods.ensures.range.periods_low);
      between = omega arith;
      lanes = λ k lt. loaded_lane (has_returns m) t x k (v k) (limits k) (at k) (stands k).of_model.has_returns_is (loaded k lt);
      costs = λ k lt.
          subst (All (λ a. a ≤ m.periods * PERIOD_COST_LIMIT)) (sym (c.in_ok-costs_of.ensures.rows k lt (v k) (read k)))
          (subst (λ (p : ℕ). All (λ a. a ≤ p * PERIOD_COST_LIMIT) (v k).costs) (stands k).of_model.periods_are (limits k).range.costs_high);
      fresh_stock = λ e k lt. (loaded k lt).stock_is ∙ (limits k).range.fresh_stock (at k ∙ e) ∙ (stands k).of_model.initial_is;
      fresh_due = λ e k lt. sym (sum-rotated (due_at x k) (t % 32)) ∙ ap sum (loaded k lt).due_is ∙ (limits k).range.fresh_due (at k ∙ e);
      room = omega (arith, c.in_ok-costs_of.ensures.room, c.replications-replications.ensures);
    }
