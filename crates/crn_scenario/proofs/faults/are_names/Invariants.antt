use Rattle.std.proofs.Common.{◌≡◌, map, drop}
use Rattle.std.specs.List.{list_all}
use Rattle.crn_spelling.specs.Names.{is_name}
use Rattle.crn_scenario.proofs.faults.are_names.Given as goal

abbrev pub invariant-loop-name : goal.invariant-loop-name
invariant-loop-name l = list_all is_name (map (λ n. n.now) (drop l.name-index l.names)) ≡ list_all is_name (map (λ n. n.now) l.names)
