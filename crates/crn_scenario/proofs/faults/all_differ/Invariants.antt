use Rattle.std.proofs.Common.{◌≡◌, true}
use Rattle.crn_scenario.specs.Reading.{all_differ}
use Rattle.crn_scenario.proofs.LaterNames.{last_names, Holds}
use Rattle.crn_scenario.proofs.faults.all_differ.Given as goal

abbrev pub invariant-loop-i : goal.invariant-loop-i
invariant-loop-i l = record {
  held : Holds l.later (last_names l.i l.names);
  differ : all_differ (last_names l.i l.names) ≡ true;
}
