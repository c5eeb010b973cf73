use Rattle.std.proofs.Common.{ℕ, rules, ap, subst}
use Rattle.crn_proto.specs.Machine.{MachineState}
use Rattle.crn_proto.specs.declared.spec.RingSpec.{RingSpec}
use Rattle.crn_engines.specs.Commands.{MadeTrace, RefusesReplay}
use Rattle.crn_engines.specs.Inner.Refusals.{RefusesTrace}
use Rattle.crn_engines.proofs.Refused.{of_each, output_of_replay, trace_of_replay}
use Rattle.crn_engines.proofs.Sent.{handed, sent, sent_front}
use Rattle.crn_engines.proofs.replay.replay_run.Goals as goal

pub returns-clause-wrote : goal.returns-clause-wrote
returns-clause-wrote g c =
    let text = c.in_ok-text.text.items in
    let spec = ap (λ (m : MachineState). m.spec) c.in_ok-machine.ensures.opened in
    let made = subst (λ (s : RingSpec). MadeTrace s (g.R.Read.remaining c.args.reader.now) (g.R.Read.remaining c.trace_from.new.reader) text) spec c.in_ok-text.ensures.made in
    sent _ _ _ text made c.send_made.result (search (rules, c.send_made.ensures.whole))

pub returns-clause-front : goal.returns-clause-front
returns-clause-front g c =
    let text = c.in_ok-text.text.items in
    let spec = ap (λ (m : MachineState). m.spec) c.in_ok-machine.ensures.opened in
    let made = subst (λ (s : RingSpec). MadeTrace s (g.R.Read.remaining c.args.reader.now) (g.R.Read.remaining c.trace_from.new.reader) text) spec c.in_ok-text.ensures.made in
    sent_front _ _ _ text made c.send_made.result _ c.send_made.ensures.front

pub returns-in_err-text-clause-refused : goal.returns-in_err-text-clause-refused
returns-in_err-text-clause-refused g c =
    let readers = ap (λ (m : MachineState). m.spec.readers) c.in_ok-machine.ensures.opened in
    let told = subst (λ (n : ℕ). RefusesTrace n c.in_err-text.field-0.0 (g.R.Read.remaining c.args.reader.now) (g.R.Read.remaining c.trace_from.new.reader)) readers c.in_err-text.ensures.refused in
    handed _ _ (λ e. RefusesReplay c.args.size c.args.readers c.args.total e _ _) c.from_residual-in_err-text.ensures (trace_of_replay _ c.args.size c.args.readers c.args.total _ _ told)

pub returns-clause-refused : goal.returns-clause-refused
returns-clause-refused g c = of_each c.send_made.result _ _ (λ e. output_of_replay e c.args.size c.args.readers c.args.total _ _) c.send_made.ensures.refused
