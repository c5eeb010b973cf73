use Rattle.std.proofs.Common.{◌++◌, ◌∷◌, [], List, ℕ, slice_index, slice_index_or, sym, ap, ◌∙◌, take_all}
use Rattle.crn_lanes.specs.Inner.Lanes.{column}
use Rattle.crn_lanes.proofs.Rows.{column_taken}
use Rattle.crn_lanes.proofs.unload.costs_from.Goals as goal

pub loop-r-preserved : goal.loop-r-preserved
loop-r-preserved c =
    let rows = c.args.rows.now in
    let r = c.loop-r.r in
    c.in_ok-push.ensures.items ∙ ap (λ (l : List ℕ). l ++ slice_index (slice_index_or rows r []) c.args.k ∷ []) c.loop-r.invariant ∙ sym (column_taken rows r c.args.k c.loop-r-test.true)

pub returns : goal.returns
returns c = c.loop-r.invariant ∙ ap (λ (l : List (List ℕ)). column l c.args.k) (take_all c.loop-r.r c.args.rows.now c.loop-r-test.false)
