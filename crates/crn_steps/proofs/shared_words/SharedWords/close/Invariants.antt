use Rattle.std.proofs.Common.{◌≡◌, ℕ, ◌+◌, ◌<◌, ◌≤◌, length, slice_index}
use mathlib.Core.Option.{some}
use lib.ListN.{get_elem?}
use Rattle.std.specs.Slots.{slots_items}
use Rattle.crn_limits.specs.declared.TheConstants.{POLICY_LIMIT}
use Rattle.crn_steps.proofs.shared_words.SharedWords.close.Given as goal

abbrev pub invariant-loop-r : goal.invariant-loop-r
invariant-loop-r l = (length l.cursors ≡ POLICY_LIMIT) × ((q : ℕ) → q < l.r → get_elem? (slots_items l.closed.words) (1 + q) ≡ some (slice_index l.cursors q)) × ((q : ℕ) → l.r ≤ q → q < POLICY_LIMIT → slice_index l.cursors q ≡ 0)
