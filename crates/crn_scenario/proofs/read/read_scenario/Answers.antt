use Rattle.std.proofs.Common.{rules}
use Rattle.toml.specs.View.{table_view}
use Rattle.crn_scenario.specs.Reading.{IsDocument}
use Rattle.crn_scenario.proofs.FirstFault.{handed_on, no_fault, refused}
use Rattle.crn_scenario.proofs.read.read_scenario.Goals as goal

pub returns-clause-reads : goal.returns-clause-reads
returns-clause-reads c =
    let document : IsDocument c.args.bytes.now (table_view c.in-Ok.table) = record { text = c.in-Ok.ensures.ok.0; tree = c.in-Ok.ensures.ok.1 } in
    record {
      tree = table_view c.in-Ok.table;
      document = document;
      no_fault = no_fault (table_view c.in-Ok.table) (search rules);
      says = c.in_ok-scenario_of.ensures;
    }

pub returns-in-Err-clause-refuses : goal.returns-in-Err-clause-refuses
returns-in-Err-clause-refuses c = search rules

pub returns-in_err-judge-clause-refuses : goal.returns-in_err-judge-clause-refuses
returns-in_err-judge-clause-refuses c =
    let document : IsDocument c.args.bytes.now (table_view c.in-Ok.table) = record { text = c.in-Ok.ensures.ok.0; tree = c.in-Ok.ensures.ok.1 } in
    handed_on _ _ _ c.from_residual.ensures (refused _ c.args.bytes.now (table_view c.in-Ok.table) document c.in_err-judge.ensures.fault)
