use Rattle.crn_sequential.specs.Runs.{IsCheckpointOf}
use Rattle.tests_model.proofs.sequential.shown_by_way_of.Given as goal

abbrev pub invariant-loop-block : goal.invariant-loop-block
invariant-loop-block l = IsCheckpointOf l.scenario l.end.next l.end.states.items
