-- The range of a cost.
use Rattle.std.specs.Prelude.{ℕ, List, [], ◌∷◌, Bool, true, ◌&&◌, nat_le}
use Rattle.crn_pair.specs.declared.compare.TheConstants.{COST_LIMIT}

-- whether each is within its range
abbrev pub are_costs : List ℕ → Bool
are_costs [] = true
are_costs (x ∷ a) = nat_le x COST_LIMIT && are_costs a
