use Rattle.std.proofs.Common.{ℕ, ◌+◌, ◌%◌, slice_index, slice_index_or, slice_set, [], get_or-set_same, get_or-set_other, sym, ap, ◌∙◌, arith, inl, inr}
use Rattle.std.proofs.lemmas.Bool.{cases_eq}
use Rattle.std.proofs.Math.ListN.{length-set}
use Rattle.crn_stock.proofs.Due.{rotated_is}
use Rattle.crn_lanes.specs.Inner.Lanes.{column}
use Rattle.crn_lanes.proofs.Rows.{length-column, column_index}
use Rattle.crn_lanes.proofs.unload.due_from.Goals as goal

pub loop-j-preserved : goal.loop-j-preserved
loop-j-preserved c =
    let due = c.loop-j.due in
    let j = c.loop-j.j in
    let col = column c.args.rows.now c.args.k in
    let x = slice_index (slice_index_or c.args.rows.now ((c.args.place + j) % 32) []) c.args.k in
    record {
      long = length-set due j x ∙ c.loop-j.invariant.long;
      each = λ i lt. elim (cases_eq i j) [
        | inl same ↦
            ap (λ (h : ℕ). slice_index (slice_set due j x) h) same ∙ get_or-set_same due j x 0 (omega (arith, c.loop-j.invariant.long, c.loop-j-test.true))
            ∙ sym (column_index c.args.rows.now ((c.args.place + j) % 32) c.args.k (omega (arith, c.told-rows))) ∙ ap (λ (h : ℕ). slice_index col ((c.args.place + h) % 32)) (sym same)
        | inr other ↦ get_or-set_other due j i x 0 other ∙ c.loop-j.invariant.each i (omega (arith, lt, other))
      ];
    }

pub returns : goal.returns
returns c =
    sym (rotated_is (column c.args.rows.now c.args.k) c.loop-j.due c.args.place (length-column c.args.rows.now c.args.k ∙ c.told-rows) c.loop-j.invariant.long c.requires.place
    (λ j lt. sym (c.loop-j.invariant.each j (omega (arith, lt, c.loop-j-test.false)))))
