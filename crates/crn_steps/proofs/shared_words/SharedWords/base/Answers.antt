use Rattle.std.proofs.Common.{arith}
use Rattle.crn_proto.specs.Ring.{place}
use Rattle.crn_steps.proofs.Slots.{slot_by_mask}
use Rattle.crn_steps.proofs.shared_words.SharedWords.base.Goals as goal

pub returns-clause-same : goal.returns-clause-same
unfolding place
returns-clause-same c = omega (arith, slot_by_mask c.before.args.self.now.spec.size c.before.args.n c.before.args.self.now.power)
