use Rattle.std.proofs.Common.{Result, Ok, Err, OnOk, Some, codes, subst}
use Rattle.crn_draw.specs.Spread.{Weighted}
use Rattle.crn_checkpoint.specs.CheckpointText as spec
use Rattle.crn_checkpoint.specs.Reading.{CanDraw}
use Rattle.crn_checkpoint.proofs.WrittenRows.{lists_in_turn}
use Rattle.crn_checkpoint.proofs.write.scenario.with_list_rows.Goals as goal

pub returns-clause-written : goal.returns-clause-written
returns-clause-written c =
    let m = c.args.model.now in
    let before = lists_in_turn (spec.drawn_rows (codes "demand") m.demand) (spec.drawn_rows (codes "lead") m.lead) (spec.returned_rows m.returns) c.args.sheet in
    rw (c.in_ok-sheet-2.ensures.written, c.in_ok-sheet.ensures.written, c.lead.ensures.value, c.demand.ensures.value, before) at c.with_returned_rows.ensures.written

-- what holds whatever a call returned holds if it succeeded
on_ok : {T E P : Type 0} (r : Result T E) → P → OnOk r P
on_ok (Ok x) p = p
on_ok (Err e) p = tt

pub returns-clause-demand : goal.returns-clause-demand
returns-clause-demand c = on_ok c.with_returned_rows.result (subst (λ (d : Weighted). CanDraw (Some d)) c.demand.ensures.value c.in_ok-sheet.ensures.can)

pub returns-clause-lead : goal.returns-clause-lead
returns-clause-lead c = on_ok c.with_returned_rows.result (subst (λ (d : Weighted). CanDraw (Some d)) c.lead.ensures.value c.in_ok-sheet-2.ensures.can)

pub returns-clause-returns : goal.returns-clause-returns
returns-clause-returns c = on_ok c.with_returned_rows.result c.with_returned_rows.ensures.can
