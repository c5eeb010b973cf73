use Rattle.std.proofs.Common.{rules, ◌≡◌, ◌∙◌, ℕ, ◌+◌, ◌*◌, ◌≤◌, List, [], ◌∷◌, ◌++◌, slice_index, sum, subst, sym, ap, refl, arith, w64, All}
use Rattle.std.proofs.lemmas.Int.{to_z-of_z}
use Rattle.std.proofs.lemmas.List.Elements.{All-push}
use Rattle.crn_stock.specs.Models.{has_returns}
use Rattle.crn_stock.specs.declared.limits.TheConstants.{PERIOD_COST_LIMIT}
use Rattle.crn_stock.proofs.Steps.{closed_on, closed_ended}
use Rattle.crn_stock.proofs.Due.{length-rotated}
use Rattle.crn_stock.proofs.Blocks.{still_open}
use Rattle.crn_lanes.specs.Inner.Lanes.{column, terms_at, due_at, with_lane}
use Rattle.crn_lanes.specs.Inner.Groups.{lane, with_costs}
use Rattle.crn_lanes.proofs.Rows.{length-column, column_more}
use Rattle.crn_lanes.proofs.Runs.{fresh_of, fresh_is, fresh_lane, few, taken_by}
use Rattle.crn_lanes.proofs.group.take_block.Goals as goal

pub push_reserved-requires : goal.push_reserved-requires
push_reserved-requires c =
    let m = c.args.model.now in
    let g = c.args.group.now in
    let can = c.requires.can 0 (omega arith) in
    let open_still = still_open m (lane m g 0) can.of_model (omega (arith, can.next, can.below)) in
    omega (arith, open_still, length-column g.costs.items 0, c.requires.group.room)

pub returns-then-group-periods-clause-group : goal.returns-then-group-periods-clause-group
returns-then-group-periods-clause-group c =
    let m = c.args.model.now in
    let g = c.args.group.now in
    let range = c.periods-periods.ensures.range in
    let rows = c.push_reserved.ensures.items in
    let row = c.run_periods.new.lanes.running in
    let begun = fresh_of _ m.initial c.fresh-group.result (to_z-of_z w64 c.initial.result (search rules) ∙ c.initial.ensures) c.fresh-group.ensures in
    record {
      period_high = range.periods_low;
      between = refl;
      lanes = λ k lt. fresh_lane m.initial (has_returns m) c.fresh-group.result k range.initial_low range.initial_high (begun k lt);
      costs = λ k lt.
          let last : slice_index row k ≤ m.periods * PERIOD_COST_LIMIT =
          subst (λ (t : ℕ). slice_index row k ≤ t * PERIOD_COST_LIMIT) (c.if-group-periods.true ∙ c.periods-periods.ensures.value) (c.run_periods.ensures.kept k lt).running_high in
          subst (All (λ x. x ≤ m.periods * PERIOD_COST_LIMIT)) (sym (ap (λ (r : List (List ℕ)). column r k) rows ∙ column_more g.costs.items row k))
          (All-push (λ x. x ≤ m.periods * PERIOD_COST_LIMIT) (column g.costs.items k) (slice_index row k) (c.requires.group.costs k lt) last);
      fresh_stock = λ _ k lt. (begun k lt).stock_is;
      fresh_due = λ _ k lt. ap sum (begun k lt).due_is;
      room = omega (arith, c.requires.group.room, c.push_reserved.ensures.capacity);
    }

pub returns-then-group-periods-clause-taken : goal.returns-then-group-periods-clause-taken
returns-then-group-periods-clause-taken c k lt =
    let m = c.args.model.now in
    let g = c.args.group.now in
    let old = lane m g k in
    let n = c.min-count.result in
    let x = c.run_periods.new.lanes in
    let w = with_lane (with_costs m (column g.costs.items k)) (g.period + n) x k in
    let size = c.periods-periods.ensures.value in
    let f = few n c.periods-periods.result g.period (search (rules, c.min-count.ensures)) (omega (arith, c.requires.group.period_high, size)) in
    let rows : column c.push_reserved.new.self.items k ≡ w.costs ++ w.running ∷ [] = ap (λ (r : List (List ℕ)). column r k) c.push_reserved.ensures.items ∙ column_more g.costs.items x.running k in
    let begun = fresh_of _ m.initial c.fresh-group.result (to_z-of_z w64 c.initial.result (search rules) ∙ c.initial.ensures) c.fresh-group.ensures in
    let ended = fresh_is (with_costs m (column c.push_reserved.new.self.items k)) w c.fresh-group.result k refl refl refl refl rows (begun k lt) in
    taken_by m (terms_at c.args.levels.now m.costs k) c.args.block.now n old w _ (c.requires.can k lt) (length-rotated (due_at g.lanes k) _ (c.requires.group.lanes k lt).length_is (omega arith))
    f.0 f.1 (omega (arith, f.2, size)) (λ less. f.3 (omega (arith, less, size))) c.run_periods.ensures.leads (c.run_periods.ensures.moved k lt (with_costs m (column g.costs.items k)))
    (ended ∙ sym (closed_ended w (c.if-group-periods.true ∙ size)))

pub returns-else-group-periods-clause-taken : goal.returns-else-group-periods-clause-taken
returns-else-group-periods-clause-taken c k lt =
    let m = c.args.model.now in
    let g = c.args.group.now in
    let old = lane m g k in
    let n = c.min-count.result in
    let x = c.run_periods.new.lanes in
    let w = with_lane (with_costs m (column g.costs.items k)) (g.period + n) x k in
    let size = c.periods-periods.ensures.value in
    let f = few n c.periods-periods.result g.period (search (rules, c.min-count.ensures)) (omega (arith, c.requires.group.period_high, size)) in
    taken_by m (terms_at c.args.levels.now m.costs k) c.args.block.now n old w w (c.requires.can k lt) (length-rotated (due_at g.lanes k) _ (c.requires.group.lanes k lt).length_is (omega arith))
    f.0 f.1 (omega (arith, f.2, size)) (λ less. f.3 (omega (arith, less, size))) c.run_periods.ensures.leads (c.run_periods.ensures.moved k lt (with_costs m (column g.costs.items k)))
    (sym (closed_on w (λ e. c.if-group-periods.false (e ∙ sym size))))
