use Rattle.crn_stock.specs.Stock.{IsOf}
use Rattle.tests_model.proofs.stock.runs_all.Given as goal

abbrev pub invariant-loop-one : goal.invariant-loop-one
invariant-loop-one l = IsOf l.model l.state
