use Rattle.std.proofs.Common.{rules, ◌≡◌, List, ap, ◌∙◌}
use Rattle.crn_stock.specs.Models.{ScenarioParts}
use Rattle.crn_proto.specs.declared.spec.RingSpec.{RingSpec}
use Rattle.crn_ring.specs.declared.ring.Ring.{Ring}
use Rattle.crn_run.specs.declared.jobs.Job.{Job}
use Rattle.crn_run.specs.declared.worker.PolicyEnd.{PolicyEnd}
use Rattle.crn_run.specs.Inner.Jobs.{AreEnds, Gathers}
use Rattle.crn_run.specs.Inner.Refusals.{RefusesEnds, RefusesRun}
use Rattle.crn_run.specs.declared.fault.RunFault.TheVariants.{Thread}
use Rattle.crn_run.proofs.Ending.{all_passed, ended_unused, from_one_ring, handed_told, has_run, of_ends, threads_started}
use Rattle.crn_run.proofs.run.run_prepared.Goals as goal

pub returns-clause-run : goal.returns-clause-run
returns-clause-run g c first upto start opened checkpoint are_jobs =
    let s : ScenarioParts = c.args.scenario.now in
    let ring : Ring = c.args.prepared.ring in
    let jobs : List Job = c.args.prepared.jobs.items in
    let ends : List PolicyEnd = c.in_ok-ends.ends.items in
    let next : c.spec-next.result.id.total ≡ upto = ap (λ (r : RingSpec). r.id.total) (c.spec-next.ensures ∙ opened) in
    let are_ends : AreEnds g.G.Gate.refused g.G.Gate.asked s ring jobs c.args.gates.now ends = search rules in
    let gathers : Gathers ends c.gather-states.result.0.items c.gather-states.result.1.items = search rules in
    has_run g.G.Gate.refused g.G.Gate.asked s ring start first upto c.spec-next.result.id.total jobs c.args.gates.now ends c.gather-states.result.0.items c.gather-states.result.1.items next opened checkpoint are_jobs are_ends gathers

pub returns-clause-one_ring : goal.returns-clause-one_ring
returns-clause-one_ring g c first upto start opened checkpoint are_jobs =
    let s : ScenarioParts = c.args.scenario.now in
    let ring : Ring = c.args.prepared.ring in
    let jobs : List Job = c.args.prepared.jobs.items in
    let ends : List PolicyEnd = c.in_ok-ends.ends.items in
    let are_ends : AreEnds g.G.Gate.refused g.G.Gate.asked s ring jobs c.args.gates.now ends = search rules in
    let gathers : Gathers ends c.gather-states.result.0.items c.gather-states.result.1.items = search rules in
    from_one_ring g.G.Gate.refused g.G.Gate.asked s ring start jobs c.args.gates.now ends are_jobs c.gather-states.result.0.items c.gather-states.result.1.items first upto opened are_ends gathers

pub returns-clause-told : goal.returns-clause-told
returns-clause-told g c first upto start opened checkpoint are_jobs =
    let s : ScenarioParts = c.args.scenario.now in
    let ring : Ring = c.args.prepared.ring in
    let jobs : List Job = c.args.prepared.jobs.items in
    let ends : List PolicyEnd = c.in_ok-ends.ends.items in
    let total = ap (λ (r : RingSpec). r.id.total) opened in
    let are_ends : AreEnds g.G.Gate.refused g.G.Gate.asked s ring jobs c.args.gates.now ends = search rules in
    all_passed g.G.Gate.refused g.G.Gate.asked s ring start jobs c.args.gates.now ends are_jobs are_ends upto total first checkpoint (search rules)

pub returns-in_err-ends-clause-told : goal.returns-in_err-ends-clause-told
returns-in_err-ends-clause-told g c first upto start opened checkpoint are_jobs =
    let f = c.in_err-ends.field-0.0 in
    let s : ScenarioParts = c.args.scenario.now in
    let ring : Ring = c.args.prepared.ring in
    let gates = c.args.gates.now in
    let refused = c.in_err-ends.ensures.thread in
    let threads = threads_started g.G.Gate.refused g.G.Gate.asked s ring start c.args.prepared.jobs.items gates f are_jobs refused.0 c.in_err-ends.ensures.started in
    handed_told _ (Thread f) _ (RefusesRun g.G.Gate.refused g.G.Gate.asked s ring first upto start gates) c.from_residual.ensures (ended_unused ring upto f refused.0 refused.1, threads)

pub returns-in_err-check-clause-told : goal.returns-in_err-check-clause-told
returns-in_err-check-clause-told g c first upto start opened checkpoint are_jobs =
    let s : ScenarioParts = c.args.scenario.now in
    let ring : Ring = c.args.prepared.ring in
    let jobs : List Job = c.args.prepared.jobs.items in
    let ends : List PolicyEnd = c.in_ok-ends.ends.items in
    let gates = c.args.gates.now in
    let refused = g.G.Gate.refused in
    let asked = g.G.Gate.asked in
    let total = ap (λ (r : RingSpec). r.id.total) opened in
    let are_ends : AreEnds refused asked s ring jobs gates ends = search rules in
    let told : RefusesEnds ends c.in_err-check.field-0.0 = search rules in
    let why = of_ends refused asked s ring start jobs gates ends are_jobs are_ends upto total first c.in_err-check.field-0.0 checkpoint told in
    handed_told _ c.in_err-check.field-0.0 _ (RefusesRun refused asked s ring first upto start gates) c.from_residual-in_err-check.ensures why
