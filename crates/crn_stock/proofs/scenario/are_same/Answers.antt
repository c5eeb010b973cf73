use Rattle.std.proofs.Common.{rules}
use Rattle.std.proofs.lemmas.Slice.Eq.{slice_eq-Decides}
use Rattle.crn_stock.proofs.scenario.are_same.Goals as goal

pub returns : goal.returns
returns c = slice_eq-Decides (λ p q. search rules) c.args.policies.now c.args.others.now c.eq.result c.eq.ensures
