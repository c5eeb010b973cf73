-- How the code reads a scenario's tree: sums number by number, the first fault that holds, and values with their weights.
use Rattle.std.specs.Prelude.{ℕ, ℤ, ◌+ℤ◌, List, [], ◌∷◌, Bool, if◌then◌else◌, Option, Some, None, ◌≡◌, pos, true, option_and_then, codes, ⊤}
use Rattle.toml.specs.Data.{Members}
use Rattle.crn_draw.specs.declared.weights.TheConstants.{TOTAL_LIMIT}
use Rattle.crn_draw.specs.Faults.{least_weights_fault}
use Rattle.crn_scenario.specs.Reading.{has_other_version, has_unknown_key, lacks_key, has_other_kind, breaks_range, has_other_lengths, has_values_out_of_order, has_weights_out_of_range, has_low_above_high, has_bad_name, has_other_ring, has_other_policy_count, integers_in, naturals_in}
use Rattle.crn_scenario.specs.Tree.{array_at}
use Rattle.crn_scenario.specs.Fields.{are_within}

-- a sum with one number more, where there is one
abbrev pub plus : ℤ → Option ℤ → ℤ
plus total None = total
plus total (Some z) = total +ℤ z

-- the first number that holds
abbrev pub first_true : List (ℕ × Bool) → Option ℕ
first_true [] = None
first_true (p ∷ ps) = if p.1 then Some p.0 else first_true ps

-- the faults in three parts: of tables, keys and single values, of values and weights, and of the policies and the ring
abbrev pub form_faults : Members → List (ℕ × Bool)
form_faults ms = (2, has_other_version ms) ∷ (3, has_unknown_key ms) ∷ (4, lacks_key ms) ∷ (5, has_other_kind ms) ∷ (6, breaks_range ms) ∷ []

abbrev pub draw_faults : Members → List (ℕ × Bool)
draw_faults ms = (7, has_other_lengths ms) ∷ (8, has_values_out_of_order ms) ∷ (9, has_weights_out_of_range ms) ∷ []

abbrev pub policy_faults : Members → List (ℕ × Bool)
policy_faults ms = (10, has_low_above_high ms) ∷ (11, has_bad_name ms) ∷ (12, has_other_ring ms) ∷ (13, has_other_policy_count ms) ∷ []

-- values and weights that can be drawn from
pub record AreDraws (o : Option Members) : Type 0 where
  pub values : are_within (pos 0) (pos TOTAL_LIMIT) (integers_in (option_and_then (array_at (codes "values")) o)) ≡ true
  pub weights : are_within (pos 0) (pos TOTAL_LIMIT) (integers_in (option_and_then (array_at (codes "weights")) o)) ≡ true
  pub no_fault : least_weights_fault (naturals_in (codes "values") o) (naturals_in (codes "weights") o) ≡ None

-- nothing stands there, or what can be drawn from
abbrev pub MayBeDraws : Option Members → Type 0
MayBeDraws None = ⊤
MayBeDraws (Some ms) = AreDraws (Some ms)
