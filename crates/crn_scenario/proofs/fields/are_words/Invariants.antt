use Rattle.std.proofs.Common.{◌≡◌, drop}
use Rattle.std.specs.List.{list_all}
use Rattle.toml.specs.View.{items_view}
use Rattle.crn_spelling.specs.Hex.{is_hex_word}
use Rattle.crn_scenario.specs.Tree.{texts_of}
use Rattle.crn_scenario.proofs.fields.are_words.Given as goal

abbrev pub invariant-items : goal.invariant-items
invariant-items l = list_all is_hex_word (texts_of (items_view (drop l.item-index l.item-items))) ≡ list_all is_hex_word (texts_of (items_view l.item-items))
