use Rattle.std.proofs.Common.{◌≡◌, map, drop}
use Rattle.crn_scenario.specs.Fields.{is_key, keys_of}
use Rattle.crn_scenario.specs.Inner.Fields.{entry_of}
use Rattle.crn_scenario.proofs.fields.is_key.Given as goal

abbrev pub invariant-loop-field : goal.invariant-loop-field
invariant-loop-field l = is_key (keys_of l.version (map entry_of (drop l.field-index l.fields))) l.key ≡ is_key (keys_of l.version (map entry_of l.fields)) l.key
