use Rattle.std.proofs.Common.{rules, ◌≡◌, ◌∙◌, None}
use Rattle.crn_run.specs.Faults.{EndedUnused, found_end}
use Rattle.std.specs.Slice.Iter.{iter_mut_rest}
use Rattle.crn_run.specs.Inner.Jobs.{HaveStarted}
use Rattle.crn_run.proofs.Ending.{handed_err, handed_on}
use Rattle.crn_run.proofs.threads.fn.run_jobs.scope.Goals as goal

pub returns-in_err-start_from : goal.returns-in_err-start_from
returns-in_err-start_from g c =
    let refused = c.in_err-start_from.field-0.0 in
    let none : found_end refused.cause ≡ None = search rules in
    let unused : EndedUnused c.captures.ring.now = record {
      producer = c.start_from.new.producer;
      of_ring = search rules;
      nothing = c.in_err-start_from.ensures.refused ∙ c.requires.unused;
      ended = search rules;
    } in
    let have : HaveStarted g.G.Gate.refused g.G.Gate.asked c.captures.scenario.now c.captures.ring.now c.captures.jobs.items (iter_mut_rest c.captures.turns) = record {
      ends = c.start_from.new.ends.items;
      started = c.in_err-start_from.ensures.started;
    } in
    record {
      ends = search rules;
      thread = handed_err c.from_residual.result refused (λ f. (found_end f.cause ≡ None) × EndedUnused c.captures.ring.now) c.from_residual.ensures (none, unused);
      started = handed_on c.from_residual.result _ have;
    }
