-- The lists of costs without a fault are those that can be compared.
use Rattle.std.proofs.Common.{◌≡◌, ℕ, ◌≤◌, true, List, [], ◌∷◌, All, None, arith, nat_le, refl}
use Rattle.std.proofs.lemmas.Bool.{and_parts, leb-true}
use Rattle.std.proofs.lemmas.Bool.Decides.{nat_tests}
use Rattle.std.proofs.lemmas.List.Elements.{All-head, All-tail, All-cons, All-nil}
use Rattle.crn_pair.specs.Limits.{are_costs}
use Rattle.crn_pair.specs.declared.compare.TheConstants.{COST_LIMIT}
use Rattle.crn_pair.specs.Refused.{least_costs_fault, AreComparable}

within : (a : List ℕ) → are_costs a ≡ true → All (λ k. k ≤ COST_LIMIT) a
within [] h = All-nil (λ k. k ≤ COST_LIMIT)
within (x ∷ a) h =
    let parts = and_parts (nat_le x COST_LIMIT) (are_costs a) h in
    All-cons (λ k. k ≤ COST_LIMIT) x a (leb-true x COST_LIMIT parts.0) (within a parts.1)

from_within : (a : List ℕ) → All (λ k. k ≤ COST_LIMIT) a → are_costs a ≡ true
from_within [] h = refl
from_within (x ∷ a) h =
    let low : x ≤ COST_LIMIT = All-head (λ k. k ≤ COST_LIMIT) x a h in
    let here : nat_le x COST_LIMIT ≡ true = grind (arith, nat_tests, low) in
    rw (here, from_within a (All-tail (λ k. k ≤ COST_LIMIT) x a h))

pub from_comparable : (a b : List ℕ) → AreComparable a b → least_costs_fault a b ≡ None
from_comparable a b h = rw (from_within a h.first, from_within b h.second) (grind (arith, nat_tests, h.each, h.some, h.few))

pub are_comparable : (a b : List ℕ) → least_costs_fault a b ≡ None → AreComparable a b
are_comparable a b e =
    let first : are_costs a ≡ true = grind (arith, nat_tests, e) in
    let second : are_costs b ≡ true = grind (arith, nat_tests, e) in record {
      each = grind (arith, nat_tests, e);
      some = grind (arith, nat_tests, e);
      few = grind (arith, nat_tests, e);
      first = within a first;
      second = within b second;
    }
