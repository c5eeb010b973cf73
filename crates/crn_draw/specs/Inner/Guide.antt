-- The guide to the search: for the words that share their leading bits, the values that they can draw.
use Rattle.std.specs.Prelude.{◌≡◌, ◌≢◌, ℕ, ◌+◌, ◌-◌, ◌*◌, ◌^◌, ◌<◌, ◌≤◌, List, length, slice_index, slice_index_or}
use Rattle.crn_draw.specs.declared.guide.Bracket.{Bracket}
use Rattle.crn_draw.specs.declared.guide.Guide.{Guide}
use Rattle.crn_draw.specs.declared.guide.TheConstants.{SEVERAL}
use Rattle.crn_draw.specs.declared.runs.Run.{Run}
use Rattle.crn_draw.specs.Spread.{place_of}
use Rattle.crn_draw.specs.Inner.Runs.{IsBracket, StandsAtPlace}

-- the place of the first word whose ten leading bits are those of a number
abbrev pub first_place : ℕ → ℕ → ℕ
first_place bits total = place_of (bits * 2 ^ 54) total

-- the place of the last word whose ten leading bits are those of a number
abbrev pub last_place : ℕ → ℕ → ℕ
last_place bits total = place_of (bits * 2 ^ 54 + (2 ^ 54 - 1)) total

-- an entry that is not the mark stands at each place from `low` to `high`
abbrev pub IsEntry : List Run → ℕ → ℕ → ℕ → Type 0
IsEntry runs low high entry = entry ≢ SEVERAL → (place : ℕ) → low ≤ place → place ≤ high → StandsAtPlace runs place entry

-- what stands past the end of the brackets
abbrev pub no_bracket : Bracket
no_bracket = record { first = 0; last = 0 }

-- what an entry says of the words whose leading bits are a number
abbrev pub EntryFits : List Run → ℕ → ℕ → ℕ → Type 0
EntryFits runs total bits entry = IsEntry runs (first_place bits total) (last_place bits total) entry

-- what a bracket says of the words whose leading bits are a number
abbrev pub BracketFits : List Run → ℕ → ℕ → Bracket → Type 0
BracketFits runs total bits bracket = IsBracket runs (first_place bits total) (last_place bits total) bracket.first bracket.last

-- an entry and a bracket for each number of ten bits
pub record IsGuide (runs : List Run) (total : ℕ) (guide : Guide) : Type 0 where
  pub entries : length guide.entries.items ≡ 1024
  pub brackets : length guide.brackets.items ≡ 1024
  pub each_entry : (bits : ℕ) → bits < 1024 → EntryFits runs total bits (slice_index guide.entries.items bits)
  pub each_bracket : (bits : ℕ) → bits < 1024 → BracketFits runs total bits (slice_index_or guide.brackets.items bits no_bracket)
