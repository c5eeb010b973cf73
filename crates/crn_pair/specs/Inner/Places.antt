-- Sums over the replications themselves, from which the code works out the sums over their pairs.
use Rattle.std.specs.Prelude.{◌≡◌, ℕ, ◌*◌, ◌≤◌, ℤ, pos, ◌+ℤ◌, ◌*ℤ◌, List, [], ◌∷◌, unsigned_abs}
use Rattle.crn_pair.specs.declared.compare.TheConstants.{COST_LIMIT}
use Rattle.crn_pair.specs.Pairs.{signed_sum}
use Rattle.crn_pair.specs.declared.pair.Moments.{Moments}

-- the sum of the products of two lists place by place
abbrev pub products : List ℤ → List ℤ → ℤ
products [] ys = pos 0
products (x ∷ xs) [] = pos 0
products (x ∷ xs) (y ∷ ys) = (x *ℤ y) +ℤ products xs ys

-- the sums of two lists
pub record AreSums (xs ys : List ℤ) (m : Moments) : Type 0 where
  pub x_is : m.x ≡ signed_sum xs
  pub y_is : m.y ≡ signed_sum ys
  pub products_are : m.products ≡ products xs ys

-- sums over n places of values up to the limit are no higher than this
pub record AreWithin (n : ℕ) (m : Moments) : Type 0 where
  pub x_low : unsigned_abs m.x ≤ n * COST_LIMIT
  pub y_low : unsigned_abs m.y ≤ n * COST_LIMIT
  pub products_low : unsigned_abs m.products ≤ n * (COST_LIMIT * COST_LIMIT)
