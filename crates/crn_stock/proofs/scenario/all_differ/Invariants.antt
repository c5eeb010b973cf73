use Rattle.std.proofs.Common.{◌≢◌, ℕ, ◌<◌, length, get_or}
use Rattle.crn_stock.specs.declared.policy.Policy.{Policy}
use Rattle.crn_stock.proofs.scenario.all_differ.Given as goal

abbrev pub invariant-loop-i : goal.invariant-loop-i
invariant-loop-i l = (i : ℕ) → i < l.i → (j : ℕ) (d : Policy) → i < j → j < length l.policies → (get_or l.policies i d).name ≢ (get_or l.policies j d).name
