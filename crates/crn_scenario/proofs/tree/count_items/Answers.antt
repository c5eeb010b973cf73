use Rattle.std.proofs.Common.{arith}
use Rattle.std.proofs.lemmas.Grind.{common_steps}
use Rattle.crn_scenario.proofs.ItemFacts.{count_items-view}
use Rattle.crn_scenario.proofs.tree.count_items.Goals as goal

pub returns : goal.returns
returns c = grind (arith, common_steps, count_items-view c.args.array.now.items)
