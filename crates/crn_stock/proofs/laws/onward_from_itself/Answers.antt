use Rattle.crn_stock.proofs.Blocks.{onward_here}
use Rattle.crn_stock.proofs.laws.onward_from_itself.Goals as goal

pub returns : goal.returns
returns c model policy key = onward_here model policy key c.args.state.now c.period.ensures.range.due_length
