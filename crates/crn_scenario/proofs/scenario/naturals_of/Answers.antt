use Rattle.std.proofs.Common.{◌≡◌, ℕ, ◌+◌, ◌++◌, List, [], ◌∷◌, map, drop, true, nat_abs, pos, ℤ, Option, sym, ap, ◌∙◌, subst, rules, append_assoc}
use Rattle.std.proofs.lemmas.Bool.{and_parts}
use Rattle.crn_draw.specs.declared.weights.TheConstants.{TOTAL_LIMIT}
use Rattle.toml.specs.Data.{as_integer}
use Rattle.toml.specs.View.{view, items_view}
use Rattle.crn_scenario.specs.Tree.{integers_of, kept}
use Rattle.crn_scenario.specs.Fields.{are_within}
use Rattle.crn_scenario.proofs.ItemFacts.{numbers_at}
use Rattle.crn_scenario.proofs.scenario.naturals_of.Goals as goal
use Rattle.crn_scenario.proofs.scenario.naturals_of.Goals.{in-Some+in_ok-push, in_default}

number_more : (made all : List ℕ) (z : ℤ) (zs rest : List ℤ) → zs ≡ z ∷ rest → made ++ map nat_abs zs ≡ all → (made ++ nat_abs z ∷ []) ++ map nat_abs rest ≡ all
number_more made all z zs rest e h = append_assoc made (nat_abs z ∷ []) (map nat_abs rest) ∙ sym (ap (λ (l : List ℤ). made ++ map nat_abs l) e) ∙ h

rest_within : (z : ℤ) (zs rest : List ℤ) → zs ≡ z ∷ rest → are_within (pos 0) (pos TOTAL_LIMIT) zs ≡ true → are_within (pos 0) (pos TOTAL_LIMIT) rest ≡ true
rest_within z zs rest e h = (and_parts _ _ (subst (λ (l : List ℤ). are_within (pos 0) (pos TOTAL_LIMIT) l ≡ true) e h)).1

pub items-preserved : goal.items-preserved
items-preserved c =
    let vs = c.deref-item-items.result.now in
    let zs : List ℤ = integers_of (items_view (drop c.items.item-index vs)) in
    let rest : List ℤ = integers_of (items_view (drop (c.items.item-index + 1) vs)) in
    let next : zs ≡ kept (as_integer (view c.item-item.result)) rest = numbers_at vs c.items.item-index c.item-item.result c.items-test.true c.item-item.is in
    elim c.match-as_integer.branch [
      | in-Some+in_ok-push w ↦
          let more : zs ≡ w.in-Some.number ∷ rest = next ∙ ap (λ (o : Option ℤ). kept o rest) (sym c.as_integer.ensures ∙ w.in-Some.is) in
          let pushed : c.match-as_integer.naturals.items ≡ c.items.naturals.items ++ nat_abs w.in-Some.number ∷ [] = search rules in record {
            made = subst (λ (l : List ℕ). l ++ map nat_abs rest ≡ map nat_abs (integers_of (items_view vs))) (sym pushed) (number_more c.items.naturals.items _ w.in-Some.number zs rest more c.items.invariant.made);
            within = rest_within w.in-Some.number zs rest more c.items.invariant.within;
          }
      | in_default w ↦ search rules
    ]
