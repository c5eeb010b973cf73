use Rattle.crn_checkpoint.specs.CheckpointText as spec
use Rattle.crn_checkpoint.proofs.WrittenRows.{four_in_turn}
use Rattle.crn_checkpoint.proofs.write.scenario.with_scenario_rows.Goals as goal

pub returns-clause-written : goal.returns-clause-written
returns-clause-written c =
    let v = c.args.version in
    let s = c.args.scenario.now in
    let m = s.model in
    let before = four_in_turn (spec.head_row v m c.args.next) (spec.key_row s.key) (spec.costs_row m.costs) (spec.sizes_row s) (spec.count_rows v m) (spec.list_rows m) c.args.sheet in
    rw (
      c.in_ok-sheet-5.ensures,
      c.in_ok-sheet-4.ensures.written,
      c.in_ok-sheet-3.ensures,
      c.in_ok-sheet-2.ensures.written,
      c.in_ok-sheet.ensures.written,
      c.costs.ensures.value,
      c.key.ensures,
      c.model-model.ensures,
      before,
    ) at c.with_list_rows.ensures.written
