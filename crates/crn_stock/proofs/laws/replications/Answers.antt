use Rattle.crn_stock.proofs.ReplicationsLemmas.{after_replications}
use Rattle.crn_stock.proofs.laws.replications.Goals as goal

pub returns : goal.returns
returns c = after_replications
