use Rattle.std.proofs.Common.{rules}
use Rattle.crn_stock.proofs.model.Model.returned.Goals as goal

pub returns-in-Some-clause-value : goal.returns-in-Some-clause-value
returns-in-Some-clause-value c = search rules
