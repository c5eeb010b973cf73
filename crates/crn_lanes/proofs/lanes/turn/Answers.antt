use Rattle.std.proofs.Common.{◌≡◌, ◌∙◌, ℕ, ◌+◌, ◌%◌, List, length, slice_index, replicate, arith, ap, sym, sum}
use Rattle.crn_stock.specs.Parts.{rotated}
use Rattle.crn_stock.proofs.Due.{turned, rotated_index}
use Rattle.crn_lanes.specs.Inner.Lanes.{column}
use Rattle.crn_lanes.proofs.Rows.{length-column, column_index, column_turned, no_amounts, sum_turned, amount_within}
use Rattle.crn_lanes.proofs.lanes.turn.Goals as goal

pub sums_of-requires : goal.sums_of-requires
sums_of-requires c k lt =
    let due = c.args.due.now in
    omega (arith, c.requires.room k lt, amount_within due c.args.place ((c.args.place + c.args.lead) % 32) k (replicate 16 0) c.told-due c.requires.place (omega arith) (no_amounts k))

long : (c : goal.After-sums_of) (k : ℕ) → length (column c.args.due.now k) ≡ 32
long c k = length-column c.args.due.now k ∙ c.told-due

pub returns-clause-arrived : goal.returns-clause-arrived
returns-clause-arrived c k lt =
    let due = c.args.due.now in
    let i = c.args.place in
    sym (rotated_index (column due k) i 0 i (long c k) c.requires.place (omega arith) (omega (arith, c.requires.place)) ∙ column_index due i k (omega (arith, c.told-due, c.requires.place)))

pub returns-clause-moved : goal.returns-clause-moved
returns-clause-moved c k lt =
    let due = c.args.due.now in
    let i = c.args.place in
    let q = (i + c.args.lead) % 32 in
    ap (λ (l : List ℕ). rotated l ((i + 1) % 32)) (column_turned due i q k (slice_index c.args.orders.now k) (replicate 16 0) c.sums_of.result c.told-due (omega arith) (no_amounts k) (c.sums_of.ensures.each k lt))
    ∙ turned (column due k) i c.args.lead (slice_index c.args.orders.now k) (long c k) c.requires.place c.requires.lead_low c.requires.lead_high

pub returns-clause-sum : goal.returns-clause-sum
returns-clause-sum c k lt =
    let due = c.args.due.now in
    let i = c.args.place in
    let q = (i + c.args.lead) % 32 in
    let z = slice_index c.args.orders.now k in
    let after = column_turned due i q k z (replicate 16 0) c.sums_of.result c.told-due (omega arith) (no_amounts k) (c.sums_of.ensures.each k lt) in
    omega (arith, ap sum after, sum_turned (column due k) i q z (omega (arith, long c k, c.requires.place)) (omega (arith, long c k)), column_index due i k (omega (arith, c.told-due, c.requires.place)))
