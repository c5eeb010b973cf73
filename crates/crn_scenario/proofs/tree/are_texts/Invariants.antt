use Rattle.std.proofs.Common.{◌≡◌, drop}
use Rattle.toml.specs.View.{items_view}
use Rattle.crn_scenario.specs.Tree.{are_texts}
use Rattle.crn_scenario.proofs.tree.are_texts.Given as goal

abbrev pub invariant-items : goal.invariant-items
invariant-items l = are_texts (items_view (drop l.item-index l.item-items)) ≡ are_texts (items_view l.item-items)
