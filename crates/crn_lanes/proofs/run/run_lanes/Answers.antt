use Rattle.std.proofs.Common.{◌≡◌, ◌∙◌, List, length, Some, slice_get, sym, subst, ap}
use Rattle.crn_stock.specs.Parts.{Parts}
use Rattle.crn_stock.specs.Models.{ModelParts}
use Rattle.crn_sequential.specs.Runs.{StandsBefore}
use Rattle.crn_sequential.proofs.Running.{each_at}
use Rattle.crn_lanes.specs.Inner.Groups.{AreRun}
use Rattle.crn_lanes.proofs.Loaded.{as_run}
use Rattle.crn_lanes.proofs.run.run_lanes.Goals.{In_ok-states}
use Rattle.crn_lanes.proofs.run.run_lanes.Goals as goal

pub run_states-requires-clause-stand : goal.run_states-requires-clause-stand
run_states-requires-clause-stand c i v e =
    subst (λ (m : ModelParts). StandsBefore m c.args.start.now.next v) (sym c.model-model.ensures)
    (c.requires.of.stand i v (subst (λ (l : List Parts). slice_get l i ≡ Some v) c.as_slice-from.ensures.value e))

all_run : (c : In_ok-states) → AreRun c.args.scenario.now.model c.args.scenario.now.key c.args.scenario.now.policies c.args.start.now.states.items c.args.upto c.in_ok-states.states.items
all_run c =
    as_run c.args.scenario.now c.args.start.now.states.items c.args.upto _ _ _ _ c.in_ok-states.states.items c.model-model.ensures c.key-key.ensures c.policies-policies.ensures.value c.as_slice-from.ensures.value
    c.in_ok-states.ensures.run

pub returns-clause-of : goal.returns-clause-of
returns-clause-of c = record {
  count = c.in_ok-states.ensures.count ∙ ap length c.policies-policies.ensures.value;
  stand = λ i v e. (all_run c i v e).0;
}

pub returns-clause-onward : goal.returns-clause-onward
returns-clause-onward c i p w v of_policy of_start of_state = (all_run c i v of_state).1 p w of_policy of_start

pub returns-clause-at : goal.returns-clause-at
returns-clause-at c =
    let start = c.args.start.now in
    each_at c.args.scenario.now start.states.items c.in_ok-states.states.items start.next c.args.upto c.requires.of (returns-clause-onward c)
