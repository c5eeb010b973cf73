use Rattle.std.proofs.Common.{◌≡◌, map}
use Rattle.toml.specs.View.{members_view}
use Rattle.crn_scenario.specs.Fields.{knows_all, keys_of}
use Rattle.crn_scenario.specs.Inner.Fields.{entry_of}
use Rattle.crn_scenario.proofs.fields.knows_all.Given as goal

abbrev pub invariant-members : goal.invariant-members
invariant-members l =
    (goal.iterator-members).can_next l.key-iterator × (goal.iterator-members).is_finite l.key-iterator
    × (knows_all (keys_of l.version (map entry_of l.fields)) (members_view l.key-iterator) ≡ knows_all (keys_of l.version (map entry_of l.fields)) (members_view l.table.entries))
