-- What a gate that counts blocks is asked.
use Rattle.std.specs.Prelude.{◌≡◌, ℕ, ◌+◌, Bool, true, false}
use Rattle.uses.specs.declared.checkpoint.Budget.{Budget}

-- a call: one that passes takes a block off what is left, and one that holds finds nothing left
abbrev pub Spends : Budget → ℕ → ℕ → Bool → Budget → Type 0
Spends g k n true g' = g.left ≡ g'.left + 1
Spends g k n false g' = g.left ≡ 0
