-- The states of all policies of a scenario between two blocks.
use Rattle.std.specs.Prelude.{◌≡◌, ℕ, List, Some, length, reverse, slice_get}
use Rattle.crn_stock.specs.Parts.{Parts}
use Rattle.crn_stock.specs.Models.{ModelParts, total, ScenarioParts}
use Rattle.crn_stock.specs.Stock.{terms_of, standing, from_start, Draws, At, OnwardAt, IsOf, IsBetween, next_block}
use Rattle.crn_stock.specs.declared.policy.Policy.{Policy}

-- a state of the model that stands before block n
pub record StandsBefore (m : ModelParts) (n : ℕ) (v : Parts) : Type 0 where
  pub of_model : IsOf m v
  pub between : IsBetween v
  pub next : next_block v ≡ n

-- one state for each policy and no more, each before block n
pub record IsCheckpointOf (s : ScenarioParts) (n : ℕ) (states : List Parts) : Type 0 where
  pub count : length states ≡ length s.policies
  pub stand : (i : ℕ) (v : Parts) → slice_get states i ≡ Some v → StandsBefore s.model n v

-- each policy's state is the one after the blocks below n
abbrev pub EachAt : ScenarioParts → ℕ → List Parts → Type 0
EachAt s n states = (i : ℕ) (p : Policy) (v : Parts) → slice_get s.policies i ≡ Some p → slice_get states i ≡ Some v → At s.model p s.key n v

-- each policy's state is the one that its state of `start` becomes by the blocks from its next one to n - 1
abbrev pub EachOnward : ScenarioParts → List Parts → ℕ → List Parts → Type 0
EachOnward s start n states = (i : ℕ) (p : Policy) (w v : Parts) → slice_get s.policies i ≡ Some p → slice_get start i ≡ Some w → slice_get states i ≡ Some v → OnwardAt s.model p s.key w n v

-- the costs by replication that a policy's state has after all blocks of the scenario
unfoldable pub costs_of : ScenarioParts → Policy → List ℕ
costs_of s p =
    (standing (terms_of p s.model.costs) s.model.periods s.model.initial (from_start s.model.initial) (reverse (Draws s.model s.key 0 (total s.model)))).costs
