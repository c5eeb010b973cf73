-- Items beside the list of values that they stand for.
use Rattle.std.proofs.Common.{◌≡◌, ℕ, ◌+◌, ◌<◌, List, [], ◌∷◌, length, drop, get_or, refl, sym, ap, ◌∙◌, arith}
use Rattle.std.proofs.lemmas.List.{at_drop_more}
use Rattle.toml.specs.Data.{as_integer}
use Rattle.toml.specs.declared.value.Value.{Value}
use Rattle.toml.specs.View.{view, items_view}
use Rattle.crn_scenario.specs.Tree.{count_items, integers_of, kept}

pub count_items-view : (vs : List Value) → length vs ≡ count_items (items_view vs)
count_items-view [] = refl
count_items-view (v ∷ vs) = omega (arith, count_items-view vs)

-- the numbers of the items from one on are its own, if it is one, and those of the rest
pub numbers_at : (vs : List Value) (i : ℕ) (v : Value) → i < length vs → v ≡ get_or vs i v → integers_of (items_view (drop i vs)) ≡ kept (as_integer (view v)) (integers_of (items_view (drop (i + 1) vs)))
numbers_at vs i v h e = at_drop_more (λ (l : List Value). integers_of (items_view l)) vs i v h ∙ ap (λ (x : Value). kept (as_integer (view x)) (integers_of (items_view (drop (i + 1) vs)))) (sym e)
