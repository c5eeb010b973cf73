-- The costs of all policies where a run ends.
use Rattle.std.proofs.Common.{◌≡◌, ℕ, suc, List, [], ◌∷◌, length, map, Some, slice_get, refl, arith}
use Rattle.crn_stock.specs.declared.policy.Policy.{Policy}
use Rattle.crn_stock.specs.Parts.{Parts}
use Rattle.crn_stock.specs.Models.{total, ScenarioParts}
use Rattle.crn_stock.specs.Stock.{At}
use Rattle.crn_sequential.specs.Runs.{EachAt, costs_of}

at_end : (s : ScenarioParts) (p : Policy) (v : Parts) → At s.model p s.key (total s.model) v → v.costs ≡ costs_of s p
unfolding costs_of
at_end s p v h = h.stands.costs_are

same_costs : (f : Policy → List ℕ) (ps : List Policy) (vs : List Parts) → length vs ≡ length ps
    → ((i : ℕ) (p : Policy) (v : Parts) → slice_get ps i ≡ Some p → slice_get vs i ≡ Some v → v.costs ≡ f p)
    → map (λ v. v.costs) vs ≡ map f ps
same_costs f [] [] count each = refl
same_costs f (p ∷ ps) (v ∷ vs) count each =
    let here : v.costs ≡ f p = each 0 p v refl refl in
    let more : map (λ v. v.costs) vs ≡ map f ps = same_costs f ps vs (omega arith) (λ i q w. each (suc i) q w) in
    λ k. here k ∷ more k
same_costs f ps vs count each = absurd (omega arith)

pub costs_at_end : (s : ScenarioParts) (vs : List Parts) → length vs ≡ length s.policies → EachAt s (total s.model) vs → map (λ v. v.costs) vs ≡ map (costs_of s) s.policies
costs_at_end s vs count each = same_costs (costs_of s) s.policies vs count (λ i p v e f. at_end s p v (each i p v e f))
