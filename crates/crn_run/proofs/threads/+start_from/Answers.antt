use Rattle.std.proofs.Common.{rules, ◌≡◌, ◌<◌, false, List, [], ◌∷◌, ◌++◌, length, ap, arith, length-append}
use Rattle.std.specs.Slice.Iter.{iter_mut_rest}
use Rattle.crn_run.specs.declared.jobs.Job.{Job}
use Rattle.crn_run.specs.declared.worker.PolicyEnd.{PolicyEnd}
use Rattle.crn_run.specs.Inner.Jobs.{IsDone, IsReady}
use Rattle.crn_sequential.proofs.Growing.{all-head, all-tail, each-front, each-last}
use Rattle.crn_run.proofs.Ending.{none_started, one_more_end, one_more_started, with_error, with_value}
use Rattle.crn_run.proofs.threads.+start_from.Goals as goal

pub start-requires-clause-job : goal.start-requires-clause-job
start-requires-clause-job g t c κs within =
    let front : List Job = c.pop.new.self.items in
    let whole : c.args.jobs.now.items ≡ front ++ c.in-Some.job ∷ [] = search rules in
    each-last (λ _. IsReady c.args.scenario.now c.args.ring.now) front c.args.jobs.now.items c.in-Some.job whole c.requires.jobs

pub start-requires-clause-gate : goal.start-requires-clause-gate
start-requires-clause-gate g t c κs within =
    let split : iter_mut_rest c.args.gates ≡ c.in-Some-next.gate.now ∷ iter_mut_rest c.next.new.self = search rules in
    all-head (λ (x : g.row.G.Denot). g.G.Gate.refused x ≡ false) (iter_mut_rest c.args.gates) (iter_mut_rest c.next.new.self) c.in-Some-next.gate.now split c.requires.gates

pub start_from-others-requires-clause-gates : goal.start_from-others-requires-clause-gates
start_from-others-requires-clause-gates g t c κs within =
    let split : iter_mut_rest c.args.gates ≡ c.in-Some-next.gate.now ∷ iter_mut_rest c.next.new.self = search rules in
    all-tail (λ (x : g.row.G.Denot). g.G.Gate.refused x ≡ false) (iter_mut_rest c.args.gates) (iter_mut_rest c.next.new.self) c.in-Some-next.gate.now split c.requires.gates

pub start_from-others-requires-clause-jobs : goal.start_from-others-requires-clause-jobs
start_from-others-requires-clause-jobs g t c κs within =
    let front : List Job = c.pop.new.self.items in
    let whole : c.args.jobs.now.items ≡ front ++ c.in-Some.job ∷ [] = search rules in
    each-front (λ _. IsReady c.args.scenario.now c.args.ring.now) front c.args.jobs.now.items c.in-Some.job whole c.requires.jobs

pub returns-in-Ok-clause-ends : goal.returns-in-Ok-clause-ends
returns-in-Ok-clause-ends g t c =
    let front : List Job = c.pop.new.self.items in
    let below : List PolicyEnd = c.start_from-others.new.ends.items in
    let whole : c.args.jobs.now.items ≡ front ++ c.in-Some.job ∷ [] = search rules in
    let split : iter_mut_rest c.args.gates ≡ c.in-Some-next.gate.now ∷ iter_mut_rest c.next.new.self = search rules in
    let grown : c.push_reserved.new.self.items ≡ below ++ c.join.result ∷ [] = search rules in
    let last : IsDone g.G.Gate.refused g.G.Gate.asked c.args.scenario.now c.args.ring.now c.in-Some.job c.in-Some-next.gate.now c.join.result = search rules in
    with_value c.start_from-others.result
    (one_more_end g.G.Gate.refused g.G.Gate.asked c.args.scenario.now c.args.ring.now front c.args.jobs.now.items (iter_mut_rest c.next.new.self) (iter_mut_rest c.args.gates) below c.push_reserved.new.self.items
    c.in-Some.job c.in-Some-next.gate.now c.join.result whole split grown)
    c.start_from-others.ensures.ends last

pub returns-in-Ok-clause-started : goal.returns-in-Ok-clause-started
returns-in-Ok-clause-started g t c =
    let front : List Job = c.pop.new.self.items in
    let below : List PolicyEnd = c.start_from-others.new.ends.items in
    let whole : c.args.jobs.now.items ≡ front ++ c.in-Some.job ∷ [] = search rules in
    let split : iter_mut_rest c.args.gates ≡ c.in-Some-next.gate.now ∷ iter_mut_rest c.next.new.self = search rules in
    let grown : c.push_reserved.new.self.items ≡ below ++ c.join.result ∷ [] = search rules in
    let last : IsDone g.G.Gate.refused g.G.Gate.asked c.args.scenario.now c.args.ring.now c.in-Some.job c.in-Some-next.gate.now c.join.result = search rules in
    with_error c.start_from-others.result
    (one_more_started g.G.Gate.refused g.G.Gate.asked c.args.scenario.now c.args.ring.now front c.args.jobs.now.items (iter_mut_rest c.next.new.self) (iter_mut_rest c.args.gates) below c.push_reserved.new.self.items
    c.in-Some.job c.in-Some-next.gate.now c.join.result whole split grown)
    c.start_from-others.ensures.started last

pub returns-in-Err-clause-started : goal.returns-in-Err-clause-started
returns-in-Err-clause-started g t c =
    let front : List Job = c.pop.new.self.items in
    let jobs : List Job = c.args.jobs.now.items in
    let whole : jobs ≡ front ++ c.in-Some.job ∷ [] = search rules in
    let some : 0 < length jobs = omega (arith, ap length whole, length-append front (c.in-Some.job ∷ [])) in
    let none : length c.args.ends.now.items ≡ 0 = search rules in
    none_started g.G.Gate.refused g.G.Gate.asked c.args.scenario.now c.args.ring.now jobs (iter_mut_rest c.args.gates) c.args.ends.now.items none some

pub returns-in-Err-clause-thread : goal.returns-in-Err-clause-thread
returns-in-Err-clause-thread g t c = search rules
