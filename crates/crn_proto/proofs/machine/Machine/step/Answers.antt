use Rattle.std.proofs.Common.{◌∙◌, ap}
use Rattle.crn_proto.specs.declared.schedule.Actor.TheVariants.{Producer, Finish, Reader, Leave}
use Rattle.crn_proto.specs.Machine.{MachineState}
use Rattle.crn_proto.proofs.Replays.{same_spec}
use Rattle.crn_proto.proofs.machine.Machine.step.Goals as goal

pub returns-in-Producer-clause-spec : goal.returns-in-Producer-clause-spec
returns-in-Producer-clause-spec c = ap (λ (m : MachineState). m.spec) c.producer_step.ensures.state ∙ same_spec c.args.self.now Producer

pub returns-in-Finish-clause-spec : goal.returns-in-Finish-clause-spec
returns-in-Finish-clause-spec c = ap (λ (m : MachineState). m.spec) c.finish_step.ensures.state ∙ same_spec c.args.self.now Finish

pub returns-in-Reader-clause-spec : goal.returns-in-Reader-clause-spec
returns-in-Reader-clause-spec c = ap (λ (m : MachineState). m.spec) c.reader_step.ensures.state ∙ same_spec c.args.self.now (Reader c.in-Reader.r)

pub returns-in-Leave-clause-spec : goal.returns-in-Leave-clause-spec
returns-in-Leave-clause-spec c = ap (λ (m : MachineState). m.spec) c.leave_step.ensures.state ∙ same_spec c.args.self.now (Leave c.in-Leave.r)
