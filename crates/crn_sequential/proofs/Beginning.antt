-- A state before the first period.
use Rattle.std.proofs.Common.{◌≡◌, ℕ, List, subst}
use Rattle.crn_stock.specs.declared.policy.Policy.{Policy}
use Rattle.crn_stock.specs.Parts.{Parts}
use Rattle.crn_stock.specs.Models.{ModelParts}
use Rattle.crn_stock.specs.Stock.{At, IsOf, IsBetween, next_block}
use Rattle.crn_sequential.specs.Runs.{StandsBefore}

-- before block 0, whatever the policy
abbrev pub Begun : ModelParts → List ℕ → ℕ → Parts → Type 0
Begun m key i v = StandsBefore m 0 v × ((p : Policy) → At m p key 0 v)

abbrev Started : List ℕ → Parts → ModelParts → Type 0
Started key v m = IsOf m v × ((p : Policy) → At m p key 0 v)

pub begun : (m m' : ModelParts) (key : List ℕ) (i : ℕ) (v : Parts) → m' ≡ m → ((p : Policy) (k : List ℕ) → At m' p k 0 v) → IsOf m' v → next_block v ≡ 0 → IsBetween v → Begun m key i v
begun m m' key i v same at of_model next between =
    let started : Started key v m = subst (Started key v) same (of_model, λ p. at p key) in
    (record { of_model = started.0; between = between; next = next }, started.1)
