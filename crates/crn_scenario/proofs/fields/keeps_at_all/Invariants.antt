use Rattle.std.proofs.Common.{◌≡◌, map, drop}
use Rattle.toml.specs.View.{table_view}
use Rattle.crn_scenario.specs.Fields.{keeps_at_all, keys_of}
use Rattle.crn_scenario.specs.Inner.Fields.{entry_of}
use Rattle.crn_scenario.proofs.fields.keeps_at_all.Given as goal

abbrev pub invariant-loop-field : goal.invariant-loop-field
invariant-loop-field l = keeps_at_all l.rule (keys_of l.version (map entry_of (drop l.field-index l.fields))) (table_view l.table) ≡ keeps_at_all l.rule (keys_of l.version (map entry_of l.fields)) (table_view l.table)
