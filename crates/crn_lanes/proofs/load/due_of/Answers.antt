use Rattle.std.proofs.Common.{ℕ, ◌+◌, ◌%◌, List, length, slice_index, refl, ap, ◌∙◌, arith}
use Rattle.std.proofs.Math.ListN.{length-set}
use Rattle.crn_stock.proofs.Due.{due_more, rotated_is}
use Rattle.crn_lanes.specs.Inner.Lanes.{column}
use Rattle.crn_lanes.specs.Inner.Groups.{seat}
use Rattle.crn_lanes.proofs.Rows.{length-column, column_set}
use Rattle.crn_lanes.proofs.load.due_of.Goals as goal

pub loop-j-init : goal.loop-j-init
loop-j-init c = record { long = refl; each = λ k lt v e h none. absurd (omega (arith, none)) }

pub loop-j-preserved : goal.loop-j-preserved
loop-j-preserved c =
    let due = c.loop-j.due in
    let row = c.due_row.result in
    let place = c.args.place in
    let j = c.loop-j.j in
    let q = (place + j) % 32 in
    record {
      long = length-set due q row ∙ c.loop-j.invariant.long;
      each = λ k lt v e h less.
          ap (λ (l : List ℕ). slice_index l ((place + h) % 32)) (column_set due q k row)
          ∙ due_more (column due k) v.due place j (slice_index row k) (length-column due k ∙ c.loop-j.invariant.long) c.requires.place c.loop-j-test.true
          (c.loop-j.invariant.each k lt v e) (c.due_row.ensures.each k lt v e) h less;
    }

pub returns : goal.returns
returns c k lt v e =
    let due = c.loop-j.due in
    rotated_is (column due k) v.due c.args.place (length-column due k ∙ c.loop-j.invariant.long) (c.requires.limits (seat (length c.args.states.now) k) v e).range.due_length c.requires.place
    (λ h less. c.loop-j.invariant.each k lt v e h (omega (arith, less, c.loop-j-test.false)))
