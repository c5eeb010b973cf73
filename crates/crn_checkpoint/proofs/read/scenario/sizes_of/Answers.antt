use Rattle.std.proofs.Common.{ap, arith}
use Rattle.crn_rows.proofs.Fields.{back}
use Rattle.crn_checkpoint.specs.CheckpointText.{checkpoint_rows}
use Rattle.crn_checkpoint.specs.Inner.Cells.{cell}
use Rattle.crn_checkpoint.proofs.Rows.{small_amount, same_parts}
use Rattle.crn_checkpoint.proofs.read.scenario.sizes_of.Goals as goal

pub returns : goal.returns
unfolding checkpoint_rows
returns c = λ v s next states h.
    let m = s.model in
    let in_range = h.ranges.scenario.model in
    let small = small_amount m.initial in_range.initial_low in_range.initial_high in
    let periods = c.natural_in.ensures m.periods (omega (arith, in_range.periods_high)) (ap (λ rows. cell rows 0 3) h.rows_are) in
    let replications = c.natural_in-2.ensures m.replications (omega (arith, in_range.replications_high)) (ap (λ rows. cell rows 0 4) h.rows_are) in
    let initial = back _ m.initial small (c.integer_in.ensures m.initial small (ap (λ rows. cell rows 3 1) h.rows_are)) in
    let setup = c.natural_in-3.ensures m.costs.setup (omega (arith, in_range.costs.setup)) (ap (λ rows. cell rows 2 1) h.rows_are) in
    let unit = c.natural_in-4.ensures m.costs.unit (omega (arith, in_range.costs.unit)) (ap (λ rows. cell rows 2 2) h.rows_are) in
    let holding = c.natural_in-5.ensures m.costs.holding (omega (arith, in_range.costs.holding)) (ap (λ rows. cell rows 2 3) h.rows_are) in
    let backlog = c.natural_in-6.ensures m.costs.backlog (omega (arith, in_range.costs.backlog)) (ap (λ rows. cell rows 2 4) h.rows_are) in
    same_parts m _ _ _ _ _ _ _ periods replications initial setup unit holding backlog
