-- What the draws of whole replications, and of a part of the next one, lead to.
use Rattle.std.specs.Prelude.{◌≡◌, ℕ, ◌+◌, ℤ, List, [], ◌∷◌, ◌++◌, length, map, reverse}
use Rattle.crn_stock.specs.Parts.{Parts}
use Rattle.crn_stock.specs.Stock.{Draw, Terms, Beginning, running, IsWithin, fresh_beginning, from_parts}

-- the draws of several replications, one after another
abbrev pub all_draws : List (List Draw) → List Draw
all_draws [] = []
all_draws (ds ∷ rest) = ds ++ all_draws rest

-- what a replication with initial stock x costs, by its draws in order
abbrev pub replication_cost : Terms → ℤ → List Draw → ℕ
replication_cost p x ds = running p (fresh_beginning x) (reverse ds)

-- how the replication goes on that a state with parts q has under way
abbrev pub beginning_of : Parts → Beginning
beginning_of q = (from_parts q).beginning

-- v are the parts after whole replications and the draws ds of the next one
pub record IsAfterReplications (p : Terms) (x : ℤ) (whole : List (List Draw)) (ds : List Draw) (v : Parts) : Type 0 where
  pub costs_are : v.costs ≡ map (replication_cost p x) whole
  pub period_is : v.period ≡ length ds
  pub within : IsWithin p (fresh_beginning x) (reverse ds) v

-- v are the parts after the draws ds, in the replication that q had under way
pub record IsInSameReplication (p : Terms) (q : Parts) (ds : List Draw) (v : Parts) : Type 0 where
  pub costs_are : v.costs ≡ q.costs
  pub period_is : v.period ≡ q.period + length ds
  pub within : IsWithin p (beginning_of q) (reverse ds) v

-- v are the parts after the draws that end the replication that q had under way, whole replications, and the
-- draws ds of the next one
pub record IsInLaterReplication (p : Terms) (q : Parts) (first : List Draw) (whole : List (List Draw)) (ds : List Draw) (v : Parts) : Type 0 where
  pub costs_are : v.costs ≡ q.costs ++ running p (beginning_of q) (reverse first) ∷ map (replication_cost p q.initial) whole
  pub period_is : v.period ≡ length ds
  pub within : IsWithin p (fresh_beginning q.initial) (reverse ds) v
