use Rattle.crn_stock.proofs.ReplicationsLemmas.{in_same_replication, in_later_replication}
use Rattle.crn_stock.specs.Stock.{terms_of}
use Rattle.crn_stock.proofs.laws.replications_onward.Goals as goal

pub returns : goal.returns
returns c = record {
  same = λ model policy. in_same_replication (terms_of policy model.costs);
  later = λ model policy. in_later_replication (terms_of policy model.costs);
}
