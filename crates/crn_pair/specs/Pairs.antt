-- The costs a and b of two policies, compared replication by replication.
use Rattle.std.specs.Prelude.{◌≡◌, ℕ, zero, suc, ◌*◌, ◌-◌, ℤ, pos, ◌+ℤ◌, ◌-ℤ◌, ◌*ℤ◌, List, [], ◌∷◌, length, map, Option, Some, None}
use Rattle.crn_pair.specs.declared.fraction.Fraction.{Fraction}
use Rattle.crn_pair.specs.declared.pair.Pair.{Pair}

-- the costs as whole numbers with a sign
abbrev pub signed : List ℕ → List ℤ
signed a = map pos a

-- the difference of the costs in each replication
abbrev pub differences : List ℕ → List ℕ → List ℤ
differences [] b = []
differences (x ∷ a) [] = []
differences (x ∷ a) (y ∷ b) = (pos x -ℤ pos y) ∷ differences a b

-- the sum of a list
abbrev pub signed_sum : List ℤ → ℤ
signed_sum [] = pos 0
signed_sum (x ∷ xs) = x +ℤ signed_sum xs

-- one replication, with the values x and y, against each of those with the values xs and ys: the sum
-- of (x - x_j) (y - y_j)
abbrev pub against : ℤ → ℤ → List ℤ → List ℤ → ℤ
against x y [] ys = pos 0
against x y (u ∷ xs) [] = pos 0
against x y (u ∷ xs) (v ∷ ys) = ((x -ℤ u) *ℤ (y -ℤ v)) +ℤ against x y xs ys

-- the sum of (x_i - x_j) (y_i - y_j) over all pairs i < j of replications
abbrev pub over_pairs : List ℤ → List ℤ → ℤ
over_pairs [] ys = pos 0
over_pairs (x ∷ xs) [] = pos 0
over_pairs (x ∷ xs) (y ∷ ys) = against x y xs ys +ℤ over_pairs xs ys

-- ---- Quotients as fractions.

-- the fraction is num / den
abbrev pub IsQuotient : ℤ → ℕ → Fraction → Type 0
IsQuotient num den f = (f.num *ℤ pos den) ≡ (num *ℤ pos f.den)

-- the same, where nothing is answered if den is 0
abbrev pub IsQuotientIfAny : ℤ → ℕ → Option Fraction → Type 0
IsQuotientIfAny num zero answer = answer ≡ None
IsQuotientIfAny num (suc d) answer = (f : Fraction) × (answer ≡ Some f) × IsQuotient num (suc d) f

-- ---- What a pair keeps of the costs that it was made of.

-- how many replications a pair compares
abbrev pub replications_of : Pair → ℕ
replications_of p = p.replications

-- the sum of the differences
abbrev pub difference_of : Pair → ℤ
difference_of p = p.difference

-- the sums over pairs of replications, of the squares of the differences' differences and of the
-- products of the costs' differences
abbrev pub squares_of : Pair → ℤ
squares_of p = p.squares

abbrev pub products_of : Pair → ℤ
products_of p = p.products

-- the pair of the costs a and b
pub record IsPairOf (a b : List ℕ) (p : Pair) : Type 0 where
  pub replications_are : replications_of p ≡ length a
  pub difference_is : difference_of p ≡ signed_sum (differences a b)
  pub squares_are : squares_of p ≡ over_pairs (differences a b) (differences a b)
  pub products_are : products_of p ≡ over_pairs (signed a) (signed b)

-- the denominator of the variance of the mean difference, for r replications
abbrev pub variance_parts : ℕ → ℕ
variance_parts r = r * r * (r - 1)

-- the denominator of the covariance, for r replications
abbrev pub covariance_parts : ℕ → ℕ
covariance_parts r = r * (r - 1)
