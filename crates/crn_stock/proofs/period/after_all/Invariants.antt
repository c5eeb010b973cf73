use Rattle.crn_stock.specs.Inner.Steps.{HasRunPeriods}
use Rattle.crn_stock.specs.Stock.{terms_in}
use Rattle.crn_stock.proofs.period.after_all.Given as goal

abbrev pub invariant-loop-k : goal.invariant-loop-k
invariant-loop-k l = HasRunPeriods (terms_in l.fn.terms) l.fn.draws l.fn.period l.k l.fn.at l.at l.fn.due l.due
