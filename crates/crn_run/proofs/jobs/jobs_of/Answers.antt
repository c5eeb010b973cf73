use Rattle.std.proofs.Common.{rules, ◌≡◌, length, ◌+◌, List, [], ◌∷◌, ◌++◌, subst, sym, arith}
use Rattle.std.proofs.lemmas.Grind.{common_steps}
use Rattle.crn_ring.specs.declared.reader.Reader.{Reader}
use Rattle.crn_ring.specs.Calls.{IsFresh, reader_number}
use Rattle.crn_run.specs.declared.jobs.Job.{Job}
use Rattle.crn_sequential.proofs.Growing.{each-front, each-grown, each-last}
use Rattle.crn_run.proofs.Ending.{JobFrom, job_from}
use Rattle.crn_run.proofs.jobs.jobs_of.Goals as goal

pub job_of-requires : goal.job_of-requires
job_of-requires c =
    let x : Reader = c.in-Some.reader in
    let front : List Reader = c.pop.new.self.items in
    let whole : c.loop-reader.readers.items ≡ front ++ x ∷ [] = search rules in
    let fresh : IsFresh c.args.ring.now (length front) x = each-last (IsFresh c.args.ring.now) front c.loop-reader.readers.items x whole c.loop-reader.invariant.fresh in
    let longer : length c.loop-reader.readers.items ≡ length front + 1 = grind (arith, common_steps, whole) in
    omega (arith, fresh.1, longer, c.loop-reader.invariant.count, c.requires.start.count)

pub loop-reader-preserved : goal.loop-reader-preserved
loop-reader-preserved c =
    let s = c.args.scenario.now in
    let ring = c.args.ring.now in
    let x : Reader = c.in-Some.reader in
    let front : List Reader = c.pop.new.self.items in
    let jobs : List Job = c.loop-reader.jobs.items in
    let j : Job = c.in_ok-job.job in
    let whole : c.loop-reader.readers.items ≡ front ++ x ∷ [] = search rules in
    let grown : c.push.new.self.items ≡ jobs ++ j ∷ [] = search rules in
    let fresh : IsFresh ring (length front) x = each-last (IsFresh ring) front c.loop-reader.readers.items x whole c.loop-reader.invariant.fresh in
    let longer : length c.loop-reader.readers.items ≡ length front + 1 = grind (arith, common_steps, whole) in
    let place : length jobs + (length front + 1) ≡ length s.policies = omega (arith, longer, c.loop-reader.invariant.count) in
    let reader : j.reader ≡ x = c.in_ok-job.ensures.reader in
    let number : j.policy ≡ reader_number j.reader = subst (λ (y : Reader). j.policy ≡ reader_number y) (sym reader) c.in_ok-job.ensures.policy in
    let its_own : IsFresh ring (length front) j.reader = subst (IsFresh ring (length front)) (sym reader) fresh in
    record {
      count = grind (arith, common_steps, grown, place);
      fresh = each-front (IsFresh ring) front c.loop-reader.readers.items x whole c.loop-reader.invariant.fresh;
      jobs = each-grown (JobFrom s ring c.args.start.now.states.items) jobs c.push.new.self.items j (length jobs) grown (λ _. length jobs) c.loop-reader.invariant.jobs
          (job_from s ring c.args.start.now.states.items c.args.start.now.next (length jobs) (length front) j c.requires.start c.requires.first its_own number place c.in_ok-job.ensures.state);
    }

pub returns : goal.returns
returns c =
    let none : length c.loop-reader.readers.items ≡ 0 = search rules in
    record {
      count = omega (arith, none, c.loop-reader.invariant.count);
      ready = λ i j e. (c.loop-reader.invariant.jobs i j e).ready;
      policies = λ i j e. (c.loop-reader.invariant.jobs i j e).policy;
      states = λ i j e. (c.loop-reader.invariant.jobs i j e).state;
    }
