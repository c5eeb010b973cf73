use Rattle.crn_steps.proofs.Going.{steps_are_a_run, steps_go_on, batches_are_bounded}
use Rattle.crn_steps.proofs.Schedules.{allowed_steps_are_made}
use Rattle.crn_steps.proofs.Opened.{opens_as_the_open_ring}
use Rattle.crn_steps.proofs.laws.steps_are_a_run.Goals as goal

pub returns : goal.returns
returns c = record {
  opens = opens_as_the_open_ring;
  allowed = allowed_steps_are_made;
  run = steps_are_a_run;
  go_on = steps_go_on;
  bounded = batches_are_bounded;
}
