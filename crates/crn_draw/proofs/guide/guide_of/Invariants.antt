use Rattle.std.proofs.Common.{◌≡◌, ◌≤◌, ◌<◌, ℕ, length, slice_index, slice_index_or}
use Rattle.crn_draw.specs.Inner.Runs.{start_at}
use Rattle.crn_draw.specs.Inner.Guide.{first_place, EntryFits, BracketFits, no_bracket}
use Rattle.crn_draw.proofs.guide.guide_of.Given as goal

abbrev pub invariant-loop-bits : goal.invariant-loop-bits
invariant-loop-bits l = record {
  inside : l.last < length l.runs;
  begun : start_at l.runs l.last ≤ first_place l.bits l.total;
  entries_made : length l.entries.items ≡ l.bits;
  brackets_made : length l.brackets.items ≡ l.bits;
  each_entry : (bits : ℕ) → bits < l.bits → EntryFits l.runs l.total bits (slice_index l.entries.items bits);
  each_bracket : (bits : ℕ) → bits < l.bits → BracketFits l.runs l.total bits (slice_index_or l.brackets.items bits no_bracket);
}
