-- States that can be restored from their amounts.
use Rattle.std.specs.Prelude.{◌≡◌, ℕ, ℤ, List, All, length, true}
use Rattle.crn_stock.specs.Parts.{Parts, restored, CanRestore}
use Rattle.crn_stock.specs.Models.{ModelParts, IsModel, IsPolicy}
use Rattle.crn_spelling.specs.Names.{is_name}
use Rattle.crn_stock.specs.declared.policy.Policy.{Policy}

-- v is the state of a model that its own amounts restore at block `next`
pub record IsRestorable (m : ModelParts) (next : ℕ) (v : Parts) : Type 0 where
  pub model : IsModel m
  pub can : CanRestore m next v.stock v.due v.running v.costs
  pub same : v ≡ restored m next v.stock v.due v.running v.costs

-- policies within their ranges, each with a state that can be restored
pub record ArePoliciesOf (m : ModelParts) (next : ℕ) (policies : List Policy) (states : List Parts) : Type 0 where
  pub count : length states ≡ length policies
  pub levels : All IsPolicy policies
  pub names : All (λ p. is_name p.name ≡ true) policies
  pub restorable : All (IsRestorable m next) states

-- these are the amounts of a state
pub record AreOf (v : Parts) (stock : ℤ) (due : List ℕ) (running : ℕ) (costs : List ℕ) : Type 0 where
  pub stock_is : stock ≡ v.stock
  pub due_is : due ≡ v.due
  pub running_is : running ≡ v.running
  pub costs_are : costs ≡ v.costs
