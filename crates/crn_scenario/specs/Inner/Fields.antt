-- The keys of a scenario's tables as the code has them.
use Rattle.crn_scenario.specs.declared.fields.Field.{Field}
use Rattle.crn_scenario.specs.Fields.{Entry}

-- the entry of a field of the code's table
abbrev pub entry_of : Field → Entry
entry_of f = record { name = f.name.now; kind = f.kind; since = f.since }
