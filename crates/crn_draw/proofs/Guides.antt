-- What the leading bits of a word say of its place, and a guide that gains an entry and a bracket.
use Rattle.std.proofs.Common.{◌≡◌, ◌≢◌, ℕ, ◌+◌, ◌-◌, ◌*◌, ◌/◌, ◌^◌, ◌<◌, ◌≤◌, List, [], ◌∷◌, ◌++◌, length, slice_index_or, subst, sym, arith, inl, inr}
use Rattle.std.proofs.lemmas.Bool.{cases_lt}
use Rattle.std.proofs.lemmas.List.{get_or_push, get_or_append_left, get_or_read_under}
use Rattle.crn_draw.specs.declared.guide.Bracket.{Bracket}
use Rattle.crn_draw.specs.declared.guide.Guide.{Guide}
use Rattle.crn_draw.specs.declared.guide.TheConstants.{SEVERAL}
use Rattle.crn_draw.specs.declared.runs.Run.{Run}
use Rattle.crn_draw.specs.Spread.{place_of}
use Rattle.crn_draw.specs.Inner.Runs.{IsBracket, StandsAtPlace}
use Rattle.crn_draw.specs.Inner.Guide.{first_place, last_place, EntryFits, BracketFits, IsGuide, no_bracket}
use Rattle.crn_draw.proofs.Drawn.{place-rises}

-- the place of a word is between those of the first and the last word with its leading bits
pub first-low : (word total : ℕ) → first_place (word / 2 ^ 54) total ≤ place_of word total
first-low word total = place-rises (word / 2 ^ 54 * 2 ^ 54) word total (omega arith)

pub last-high : (word total : ℕ) → place_of word total ≤ last_place (word / 2 ^ 54) total
last-high word total = place-rises word (word / 2 ^ 54 * 2 ^ 54 + (2 ^ 54 - 1)) total (omega arith)

-- the places of the words with some leading bits are no higher than those of the next
pub last-next : (bits total : ℕ) → last_place bits total ≤ first_place (bits + 1) total
last-next bits total = place-rises (bits * 2 ^ 54 + (2 ^ 54 - 1)) ((bits + 1) * 2 ^ 54) total (omega arith)

-- what holds of each item by its index holds of one that is read
read-one : {X : Type 0} (P : ℕ → X → Type 0) (count : ℕ) (xs : List X) (x d : X) → length xs ≡ count
    → ((i : ℕ) → i < count → P i (slice_index_or xs i d)) → (i : ℕ) → i < count → x ≡ slice_index_or xs i x → P i x
read-one P count xs x d long each i lt read = subst (P i) (sym (get_or_read_under xs i count x d read lt (sym long))) (each i lt)

-- what the entry and the bracket of a word say of its place
module _ (runs : List Run) (total word : ℕ) (guide : Guide) (fits : word < 2 ^ 64) (g : IsGuide runs total guide) where
  inside : word / 2 ^ 54 < 1024
  inside = omega (arith, fits)

  pub entry-stands : (entry : ℕ) → entry ≡ slice_index_or guide.entries.items (word / 2 ^ 54) entry → entry ≢ SEVERAL → StandsAtPlace runs (place_of word total) entry
  entry-stands entry read one =
      read-one (EntryFits runs total) 1024 guide.entries.items entry 0 g.entries g.each_entry (word / 2 ^ 54) inside read one
      (place_of word total) (first-low word total) (last-high word total)

  pub bracket-holds : (bracket : Bracket) → bracket ≡ slice_index_or guide.brackets.items (word / 2 ^ 54) bracket
      → IsBracket runs (place_of word total) (place_of word total) bracket.first bracket.last
  bracket-holds bracket read =
      let here : BracketFits runs total (word / 2 ^ 54) bracket =
      read-one (BracketFits runs total) 1024 guide.brackets.items bracket no_bracket g.brackets g.each_bracket (word / 2 ^ 54) inside read in
      record {
        ordered = here.ordered;
        inside = here.inside;
        begun = omega (arith, here.begun, first-low word total);
        next = λ j from lt. omega (arith, here.next j from lt, last-high word total);
      }

-- the runs of a first and of a last place are those of all between
pub bracket-between : (runs : List Run) (low high first last : ℕ) → first ≤ last → IsBracket runs low low first first → IsBracket runs high high last last
    → IsBracket runs low high first last
bracket-between runs low high first last le a b = record { ordered = le; inside = b.inside; begun = a.begun; next = b.next }

-- what holds of each item by its index, and of one more, holds of each once that is pushed
pub one-more : {X : Type 0} (P : ℕ → X → Type 0) (count : ℕ) (xs new : List X) (x d : X) → new ≡ xs ++ x ∷ [] → length xs ≡ count
    → ((i : ℕ) → i < count → P i (slice_index_or xs i d)) → P count x → (i : ℕ) → i < count + 1 → P i (slice_index_or new i d)
one-more P count xs new x d pushed long each here i lt =
    subst (λ (l : List _). P i (slice_index_or l i d)) (sym pushed) (elim (cases_lt i count) [
      | inl below ↦ subst (P i) (sym (get_or_append_left xs (x ∷ []) d i (omega (arith, long, below)))) (each i below)
      | inr from ↦
          let same : count ≡ i = omega (arith, lt, from) in
          subst (λ (n : ℕ). P n (slice_index_or (xs ++ x ∷ []) n d)) same (subst (P count) (sym (get_or_push xs x d count long)) here)
    ])
