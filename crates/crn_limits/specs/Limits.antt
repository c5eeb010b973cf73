-- The sizes of a ring.
use Rattle.std.specs.Prelude.{◌≡◌, ℕ, ◌≤◌, true}
use Rattle.std.specs.Int.{is_power_of_two}
use Rattle.crn_limits.specs.declared.TheConstants.{SLOT_LIMIT}

-- a power of two from 1 to the most slots
abbrev pub IsRingSize : ℕ → Type 0
IsRingSize slots = (is_power_of_two slots ≡ true) × (slots ≤ SLOT_LIMIT)
