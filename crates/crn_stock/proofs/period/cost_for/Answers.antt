use Rattle.std.proofs.Common.{rules, arith}
use Rattle.std.proofs.lemmas.Grind.{common_steps}
use Rattle.crn_stock.specs.Stock.{cost_of}
use Rattle.crn_stock.proofs.period.cost_for.Goals as goal

pub max-held-requires : goal.max-held-requires
max-held-requires c = search rules

pub returns-clause-value : goal.returns-clause-value
unfolding cost_of
returns-clause-value c = search rules

pub returns-clause-cap : goal.returns-clause-cap
returns-clause-cap c = grind (arith, common_steps)

pub overflow_sub-owed : goal.overflow_sub-owed
overflow_sub-owed c = search rules

pub overflow_mul-result : goal.overflow_mul-result
overflow_mul-result c = search rules

pub overflow_mul-result-2 : goal.overflow_mul-result-2
overflow_mul-result-2 c = search rules

pub overflow_mul-result-3 : goal.overflow_mul-result-3
overflow_mul-result-3 c = grind (arith, common_steps)

pub overflow_add-result : goal.overflow_add-result
overflow_add-result c = search rules

pub overflow_add-result-2 : goal.overflow_add-result-2
overflow_add-result-2 c = search rules

pub overflow_add-result-3 : goal.overflow_add-result-3
overflow_add-result-3 c = grind (arith, common_steps)
