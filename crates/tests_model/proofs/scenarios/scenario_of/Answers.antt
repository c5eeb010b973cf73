use Rattle.tests_model.proofs.scenarios.scenario_of.Goals as goal

pub scenario_with-requires : goal.scenario_with-requires
scenario_with-requires c = c.in_ok-policies.ensures.can c.count.result c.count.ensures
