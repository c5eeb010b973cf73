use Rattle.std.proofs.Common.{rules, ◌≡◌, ℕ, ◌*◌, ◌/◌, ◌%◌, ◌≤◌, ◌∙◌, length, sum, All, IsTrue, arith, ap, subst, w64}
use mir.Val.{SFits}
use Rattle.std.proofs.lemmas.Int.{to_z-of_z}
use Rattle.crn_cipher.specs.declared.TheConstants.{STREAM_WORDS}
use Rattle.crn_stock.specs.declared.limits.TheConstants.{PERIOD_COST_LIMIT}
use Rattle.crn_stock.specs.Models.{has_returns}
use Rattle.crn_stock.specs.Parts.{first_period}
use Rattle.crn_stock.specs.Inner.Steps.{HasAmounts}
use Rattle.crn_stock.proofs.Steps.{first_period-high, has_at}
use Rattle.crn_stock.proofs.restore.can_restore.Goals as goal

pub returns-clause-can : goal.returns-clause-can
returns-clause-can c passed =
    let m = c.args.model.now in
    let n = c.args.next_block in
    let count : length c.args.costs.now ≡ n / c.blocks_per_replication-blocks.result = search rules in
    let period : STREAM_WORDS * (n % c.blocks_per_replication-blocks.result) ≡ first_period m n = ap (λ (b : ℕ). STREAM_WORDS * (n % b)) c.blocks_per_replication-blocks.ensures.value in
    let stock_fits : SFits w64 c.args.stock = search rules in
    let initial_fits : SFits w64 c.initial.result = search rules in
    let costs_passed : IsTrue c.are_within.result = search rules in
    let h : HasAmounts m.initial (has_returns m) (first_period m n) c.args.stock (sum c.args.due.now) c.args.running =
    has_at _ _ _ _ _ _ _ _ _ _ _ (to_z-of_z w64 c.initial.result initial_fits ∙ c.initial.ensures) c.has_returns.ensures period (to_z-of_z w64 c.args.stock stock_fits) c.on_order.ensures.sum (c.has_amounts.ensures.0 passed) in
    record {
      number = omega (arith, c.total.ensures.value);
      count = count ∙ ap (λ (b : ℕ). n / b) c.blocks_per_replication-blocks.ensures.value;
      ranges = record {
        period_high = first_period-high m n c.periods-periods.ensures.range.periods_low;
        stock_low = h.stock_low;
        stock_high = h.stock_high;
        due_length = search rules;
        position_low = h.position_low;
        position_high = h.position_high;
        running_high = h.running_high;
        costs_high = subst (λ (k : ℕ). All (λ x. x ≤ k * PERIOD_COST_LIMIT) c.args.costs.now) (c.from.ensures ∙ c.periods-periods.ensures.value) (c.are_within.ensures.0 costs_passed);
        fresh_stock = h.fresh_stock;
        fresh_due = h.fresh_due;
      };
    }
