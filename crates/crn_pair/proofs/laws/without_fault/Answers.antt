use Rattle.crn_pair.proofs.Comparable.{are_comparable, from_comparable}
use Rattle.crn_pair.proofs.laws.without_fault.Goals as goal

pub returns : goal.returns
returns c a b = (are_comparable a b, from_comparable a b)
