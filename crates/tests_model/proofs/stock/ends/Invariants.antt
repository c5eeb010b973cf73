use Rattle.crn_stock.specs.Stock.{IsOf, IsBetween}
use Rattle.tests_model.proofs.stock.ends.Given as goal

abbrev pub invariant-loop-number : goal.invariant-loop-number
invariant-loop-number l = record { of_model : IsOf l.model l.state; between : IsBetween l.state }
