-- Amounts due, from their rows.
use Rattle.std.proofs.Common.{◌≡◌, ℕ, zero, suc, ◌+◌, ◌<◌, ◌≤◌, ◌^◌, ◌-◌, min, List, [], ◌∷◌, length, get_or, drop, take, set, All, ◌++◌, decimal, ap, sym, ◌∙◌, arith, drop-cons, length-drop}
use Rattle.std.proofs.lemmas.List.{take_more, take_more_set}
use Rattle.crn_checkpoint.specs.CheckpointText.{due_rows}
use Rattle.crn_checkpoint.specs.Inner.Cells.{cell}

-- the first row is of some period from t on
pub record IsFirst (t n : ℕ) (rows : List (List (List ℕ))) : Type 0 where
  pub period : ℕ
  pub low : t ≤ period
  pub high : period < t + n
  pub spells : cell rows 0 1 ≡ decimal period

pub first_due : (t : ℕ) (amounts : List ℕ) (rows : List (List (List ℕ))) → 0 < length rows → rows ≡ due_rows t amounts → IsFirst t (length amounts) rows
first_due t [] rows some e = absurd (omega (arith, some, ap length e))
first_due t (zero ∷ amounts) rows some e =
    let later = first_due (t + 1) amounts rows some e in
    record { period = later.period; low = omega (arith, later.low); high = omega (arith, later.high); spells = later.spells }
first_due t (suc a ∷ amounts) rows some e = record { period = t; low = omega arith; high = omega arith; spells = ap (λ rows. cell rows 0 1) e }

-- an amount of 0 has no row, so that the first row is of a later period
pub none_here : (t u : ℕ) (amounts : List ℕ) (rows : List (List (List ℕ))) → 0 < length rows → t + length amounts < 2 ^ 32 → rows ≡ due_rows t (0 ∷ amounts)
    → ((n : ℕ) → n < 2 ^ 64 → cell rows 0 1 ≡ decimal n → u ≡ n) → u ≡ t → ⊥
none_here t u amounts rows some small e says same =
    let first = first_due (t + 1) amounts rows some e in
    let is : u ≡ first.period = says first.period (omega (arith, first.high, small)) first.spells in
    omega (arith, is, same, first.low)

pub amount_read : (a t : ℕ) (amounts : List ℕ) (rows : List (List (List ℕ))) (u x m k : ℕ) → 0 < length rows → a < 2 ^ 32 → t + length amounts < 2 ^ 32 → rows ≡ due_rows t (a ∷ amounts)
    → ((n : ℕ) → n < 2 ^ 64 → cell rows 0 1 ≡ decimal n → u ≡ n) → ((n : ℕ) → n < 2 ^ 64 → cell rows 0 2 ≡ decimal n → x ≡ n) → u ≡ t → k ≡ 2 ^ 32 - 1 → m ≡ min x k → m ≡ a
amount_read zero t amounts rows u x m k some lt small e first second same most is = absurd (none_here t u amounts rows some small e first same)
amount_read (suc a) t amounts rows u x m k some lt small e first second same most is =
    let read : x ≡ suc a = second (suc a) (omega (arith, lt)) (ap (λ rows. cell rows 0 2) e) in
    omega (arith, read, lt, most, is)

-- one amount more
pub turn : (t k : ℕ) (amounts due : List ℕ) (rest rest' : List (List (List ℕ))) (a : ℕ) → length amounts ≡ 32 → length due ≡ 32 → k < 32 → t < 2 ^ 12 → All (λ x. x < 2 ^ 32) amounts
    → (rest ≡ due_rows (t + k) (drop k amounts)) × (take k due ≡ take k amounts)
    → ((b : ℕ) (more : List ℕ) → b < 2 ^ 32 → t + k + length more < 2 ^ 32 → rest ≡ due_rows (t + k) (b ∷ more) → a ≡ b)
    → ((u : ℕ) (more : List ℕ) → rest ≡ due_rows u (a ∷ more) → rest' ≡ due_rows (u + 1) more)
    → (rest' ≡ due_rows (t + (k + 1)) (drop (k + 1) amounts)) × (take (k + 1) (set due k a) ≡ take (k + 1) amounts)
turn t k amounts due rest rest' a long room lt small fits inv reads moves =
    let inside : k < length amounts = omega (arith, long, lt) in
    let one : suc k ≡ k + 1 = omega arith in
    let split : drop k amounts ≡ get_or amounts k 0 ∷ drop (k + 1) amounts = drop-cons amounts k 0 inside ∙ ap (λ (n : ℕ). get_or amounts k 0 ∷ drop n amounts) one in
    let short : length (drop (k + 1) amounts) ≤ 32 = rw (length-drop) (omega (arith, long)) in
    let now : rest ≡ due_rows (t + k) (get_or amounts k 0 ∷ drop (k + 1) amounts) = inv.0 ∙ ap (due_rows (t + k)) split in
    let same : a ≡ get_or amounts k 0 = reads (get_or amounts k 0) (drop (k + 1) amounts) (fits k 0 inside) (omega (arith, short, small, lt)) now in
    let next : t + k + 1 ≡ t + (k + 1) = omega arith in
    let within : k < length due = omega (arith, room, lt) in (
      moves (t + k) (drop (k + 1) amounts) (now ∙ ap (λ (b : ℕ). due_rows (t + k) (b ∷ drop (k + 1) amounts)) (sym same)) ∙ ap (λ (u : ℕ). due_rows u (drop (k + 1) amounts)) next,
      take_more_set due k a within ∙ (λ i. inv.1 i ++ same i ∷ []) ∙ sym (take_more amounts k 0 inside),
    )
