use Rattle.std.proofs.Common.{rules}
use Rattle.std.proofs.lemmas.Result.{IfErr-weaker}
use Rattle.crn_sequential.proofs.Running.{each_at}
use Rattle.crn_run.proofs.Ending.{of_run, on_err, on_ok, told_gate, told_thread}
use Rattle.crn_run.proofs.run.run_all.Goals as goal

pub returns-clause-next : goal.returns-clause-next
returns-clause-next g c = let start = c.args.start.now in
    of_run c.args.scenario.now start.next start.states.items c.args.upto _ _ (λ f h. h.next_is) (c.run_prepared.ensures.run start.next c.args.upto start.states.items (search rules) c.requires.of (search rules))

pub returns-clause-of : goal.returns-clause-of
returns-clause-of g c = let start = c.args.start.now in
    of_run c.args.scenario.now start.next start.states.items c.args.upto _ _ (λ f h. h.of_scenario) (c.run_prepared.ensures.run start.next c.args.upto start.states.items (search rules) c.requires.of (search rules))

pub returns-clause-at : goal.returns-clause-at
returns-clause-at g c = let start = c.args.start.now in
    of_run c.args.scenario.now start.next start.states.items c.args.upto _ _ (λ f h. each_at c.args.scenario.now start.states.items f.checkpoint.states.items start.next c.args.upto c.requires.of h.onward) (c.run_prepared.ensures.run start.next c.args.upto start.states.items (search rules) c.requires.of (search rules))

pub returns-clause-onward : goal.returns-clause-onward
returns-clause-onward g c = let start = c.args.start.now in
    of_run c.args.scenario.now start.next start.states.items c.args.upto _ _ (λ f h. h.onward) (c.run_prepared.ensures.run start.next c.args.upto start.states.items (search rules) c.requires.of (search rules))

pub returns-clause-readers : goal.returns-clause-readers
returns-clause-readers g c = let start = c.args.start.now in
    of_run c.args.scenario.now start.next start.states.items c.args.upto _ _ (λ f h. h.read) (c.run_prepared.ensures.run start.next c.args.upto start.states.items (search rules) c.requires.of (search rules))

pub returns-clause-passed : goal.returns-clause-passed
returns-clause-passed g c = let start = c.args.start.now in
    on_ok c.run_prepared.result _ _ (c.run_prepared.ensures.told start.next c.args.upto start.states.items (search rules) c.requires.of (search rules))

pub returns-clause-one_ring : goal.returns-clause-one_ring
returns-clause-one_ring g c = let start = c.args.start.now in
    c.run_prepared.ensures.one_ring start.next c.args.upto start.states.items (search rules) c.requires.of (search rules)

pub returns-clause-thread : goal.returns-clause-thread
returns-clause-thread g c f is = let start = c.args.start.now in
    told_thread g.G.Gate.refused g.G.Gate.asked c.args.scenario.now c.in_ok-prepared.prepared.ring start.next c.args.upto start.states.items c.args.gates.now f c.run_prepared.result (search rules) is
    (on_err c.run_prepared.result _ _ (c.run_prepared.ensures.told start.next c.args.upto start.states.items (search rules) c.requires.of (search rules)))

pub returns-clause-held : goal.returns-clause-held
returns-clause-held g c = let start = c.args.start.now in
    IfErr-weaker c.run_prepared.result _ _ (λ e h is. (told_gate g.G.Gate.refused g.G.Gate.asked c.args.scenario.now c.in_ok-prepared.prepared.ring start.next c.args.upto start.states.items c.args.gates.now e is h).0)
    (on_err c.run_prepared.result _ _ (c.run_prepared.ensures.told start.next c.args.upto start.states.items (search rules) c.requires.of (search rules)))

pub returns-clause-no_early_end : goal.returns-clause-no_early_end
returns-clause-no_early_end g c = let start = c.args.start.now in
    IfErr-weaker c.run_prepared.result _ _ (λ e h is. (told_gate g.G.Gate.refused g.G.Gate.asked c.args.scenario.now c.in_ok-prepared.prepared.ring start.next c.args.upto start.states.items c.args.gates.now e is h).1)
    (on_err c.run_prepared.result _ _ (c.run_prepared.ensures.told start.next c.args.upto start.states.items (search rules) c.requires.of (search rules)))
