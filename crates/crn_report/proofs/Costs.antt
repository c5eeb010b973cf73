-- The costs at a run's end are never refused as a pair.
use Rattle.std.proofs.Common.{◌≡◌, ℕ, suc, ◌*◌, ◌≤◌, true, List, [], ◌∷◌, All, length, None, refl, arith, le-leb}
use Rattle.std.proofs.lemmas.Bool.Decides.{nat_tests}
use Rattle.crn_limits.specs.declared.TheConstants.{PERIOD_LIMIT}
use Rattle.crn_stock.specs.declared.limits.TheConstants.{PERIOD_COST_LIMIT}
use Rattle.crn_pair.specs.declared.compare.TheConstants.{COST_LIMIT}
use Rattle.crn_pair.specs.Limits.{are_costs}
use Rattle.crn_pair.specs.Refused.{least_costs_fault}

costs_fit : (a : List ℕ) → All (λ k. k ≤ PERIOD_LIMIT * PERIOD_COST_LIMIT) a → are_costs a ≡ true
costs_fit [] h = refl
costs_fit (x ∷ a) h =
    let here = h 0 x (omega arith) in
    rw (le-leb x COST_LIMIT (omega (arith, here)), costs_fit a (λ k d inside. h (suc k) d (omega (arith, inside))))

pub no_fault : (a b : List ℕ) → length b ≡ length a → 1 ≤ length a → length a ≤ 256
    → All (λ k. k ≤ PERIOD_LIMIT * PERIOD_COST_LIMIT) a → All (λ k. k ≤ PERIOD_LIMIT * PERIOD_COST_LIMIT) b → least_costs_fault a b ≡ None
no_fault a b same some few low_a low_b =
    let fit_a = costs_fit a low_a in
    let fit_b = costs_fit b low_b in
    grind (arith, nat_tests, same, some, few, fit_a, fit_b)
