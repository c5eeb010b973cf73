use Rattle.std.proofs.Common.{refl, arith}
use Rattle.tests_model.proofs.scenarios.Slots.count.Goals as goal

pub returns-in-One : goal.returns-in-One
unfolding lib.Count.ones
returns-in-One c = (refl, omega arith)

pub returns-in-Two : goal.returns-in-Two
unfolding lib.Count.ones
returns-in-Two c = (refl, omega arith)

pub returns-in-SixtyFour : goal.returns-in-SixtyFour
unfolding lib.Count.ones
returns-in-SixtyFour c = (refl, omega arith)
