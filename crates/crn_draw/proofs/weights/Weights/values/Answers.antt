use Rattle.std.proofs.Common.{rules, ◌≡◌, ◌<◌, ◌∙◌, List, ℕ, AllPairs, sym, subst}
use Rattle.crn_draw.proofs.Rising.{rises_zero, pairs-rise}
use Rattle.crn_draw.proofs.weights.Weights.values.Goals as goal

pub returns-clause-rising : goal.returns-clause-rising
returns-clause-rising c =
    let values = c.self.inside.values.items in
    let same : c.as_slice.result.now ≡ values = search rules in
    subst (λ (l : List ℕ). AllPairs (λ x y. x < y) l) (sym same) (pairs-rise 0 values (rises_zero values ∙ c.self.invariant.rising))
