-- The 32 amounts due, read from a place on.
use Rattle.std.proofs.Common.{◌≡◌, ℕ, ◌+◌, ◌-◌, ◌<◌, ◌≤◌, ◌%◌, ◌≢◌, cond, List, [], ◌∷◌, ◌++◌, length, slice_index, slice_set, drop, take, length-drop, length-append, get_or-set_same, get_or-set_other, refl, sym, ap, ◌∙◌, arith, nat_eq, inl, inr}
use Rattle.std.proofs.lemmas.Bool.Decides.{nat_tests}
use Rattle.std.proofs.lemmas.Bool.{cases_eq, cases_lt}
use Rattle.std.proofs.lemmas.List.{get_or-append_right, get_or-drop, get_or-take, length-take, ext_get_or}
use Rattle.std.proofs.Math.ListN.{get_or-append, length-set}
use Rattle.crn_stock.specs.Parts.{rotated}
use Rattle.crn_stock.specs.Inner.Steps.{next_due}
use Rattle.crn_stock.proofs.Steps.{moved_index, tail_index, tail_last_at, length-base}

pub length-rotated : (r : List ℕ) (i : ℕ) → length r ≡ 32 → i < 32 → length (rotated r i) ≡ 32
length-rotated r i e lt = omega (arith, e, length-append (drop i r) (take i r), length-drop i r, length-take i r)

-- the amount k places after place i
pub rotated_index : (r : List ℕ) (i k j : ℕ) → length r ≡ 32 → i < 32 → k < 32 → (i + k) % 32 ≡ j → slice_index (rotated r i) k ≡ slice_index r j
rotated_index r i k j e li lk ej = elim (cases_lt k (32 - i)) [
  | inl lt ↦
      let len : k < length (drop i r) = omega (arith, e, length-drop i r, lt) in
      let at : i + k ≡ j = omega (arith, ej, lt) in
      get_or-append (drop i r) (take i r) 0 k len ∙ get_or-drop i r k 0 ∙ ap (λ (m : ℕ). slice_index r m) at
  | inr ge ↦
      let len : length (drop i r) ≡ 32 - i = omega (arith, e, length-drop i r) in
      let inside : k - (32 - i) < i = omega (arith, ge) in
      let at : k - (32 - i) ≡ j = omega (arith, ej, ge) in
      get_or-append_right (drop i r) (take i r) (32 - i) k 0 len ge ∙ get_or-take i r (k - (32 - i)) 0 inside ∙ ap (λ (m : ℕ). slice_index r m) at
]

-- the amounts due with the first one taken out, seen from the next place
base_at : (r : List ℕ) (i k j : ℕ) → length r ≡ 32 → i < 32 → k < 32 → (i + 1 + k) % 32 ≡ j
    → slice_index (slice_set r i 0) j ≡ slice_index (drop 1 (rotated r i) ++ 0 ∷ []) k
base_at r i k j e li lk ej = elim (cases_eq k 31) [
  | inl same ↦
      let at : j ≡ i = omega (arith, ej, same, li) in
      let inside : i < length r = omega (arith, e, li) in
      ap (λ (m : ℕ). slice_index (slice_set r i 0) m) at ∙ get_or-set_same r i 0 0 inside ∙ sym (tail_last_at (rotated r i) k (length-rotated r i e li) same)
  | inr other ↦
      let less : k < 31 = omega (arith, lk, other) in
      let apart : j ≢ i = λ f. absurd (omega (arith, ej, f, li, less)) in
      let place : (i + (k + 1)) % 32 ≡ j = ap (λ (m : ℕ). m % 32) (omega arith) ∙ ej in
      get_or-set_other r i j 0 0 apart ∙ sym (tail_index (rotated r i) k (length-rotated r i e li) less ∙ rotated_index r i (k + 1) j e li (omega arith) place)
]

same_place : (i lead k j q : ℕ) → i < 32 → k < 32 → lead ≡ k + 1 → (i + 1 + k) % 32 ≡ j → (i + lead) % 32 ≡ q → q ≡ j
same_place i lead k j q li lk e ej eq = sym eq ∙ ap (λ (m : ℕ). (i + m) % 32) e ∙ ap (λ (m : ℕ). m % 32) (omega arith) ∙ ej

other_place : (i lead k j q : ℕ) → i < 32 → k < 32 → 1 ≤ lead → lead ≤ 32 → (i + 1 + k) % 32 ≡ j → (i + lead) % 32 ≡ q → j ≡ q → lead ≡ k + 1
other_place i lead k j q li lk low high ej eq e = omega arith

put_at : (base : List ℕ) (q j lead k z : ℕ) → length base ≡ 32 → q < 32 → (lead ≡ k + 1 → q ≡ j) → (j ≡ q → lead ≡ k + 1)
    → slice_index (slice_set base q (slice_index base q + z)) j ≡ cond (nat_eq lead (k + 1)) z 0 + slice_index base j
put_at base q j lead k z len lq there back = grind (arith, nat_tests, get_or-set_same, get_or-set_other)

pub turned : (r : List ℕ) (i lead z : ℕ) → length r ≡ 32 → i < 32 → 1 ≤ lead → lead ≤ 32
    → rotated (slice_set (slice_set r i 0) ((i + lead) % 32) (slice_index (slice_set r i 0) ((i + lead) % 32) + z)) ((i + 1) % 32) ≡ next_due (rotated r i) lead z
turned r i lead z e li low high =
    let q = (i + lead) % 32 in
    let i' = (i + 1) % 32 in
    let base = slice_set r i 0 in
    let due = slice_set base q (slice_index base q + z) in
    let lq : q < 32 = omega arith in
    let li' : i' < 32 = omega arith in
    let len-base : length base ≡ 32 = length-set r i 0 ∙ e in
    let len-due : length due ≡ 32 = length-set base q _ ∙ len-base in
    let R = rotated r i in
    let len-R : length R ≡ 32 = length-rotated r i e li in
    let len-A : length (rotated due i') ≡ 32 = length-rotated due i' len-due li' in
    let len-B : length (next_due R lead z) ≡ 32 = length-set (drop 1 R ++ 0 ∷ []) _ _ ∙ length-base R len-R in
    ext_get_or 0 (rotated due i') (next_due R lead z) (len-A ∙ sym len-B) (λ k lt.
    let lk : k < 32 = omega (arith, lt, len-A) in
    let j = (i + 1 + k) % 32 in
    let place : (i' + k) % 32 ≡ j = omega arith in
    rotated_index due i' k j len-due li' lk place
    ∙ put_at base q j lead k z len-base lq (λ f. same_place i lead k j q li lk f refl refl) (λ f. other_place i lead k j q li lk low high refl refl f)
    ∙ ap (λ (y : ℕ). cond (nat_eq lead (k + 1)) z 0 + y) (base_at r i k j e li lk refl)
    ∙ sym (moved_index R lead z k len-R low high lk))

-- amounts due that are filled in from a place on
pub due_more : (due amounts : List ℕ) (place k x : ℕ) → length due ≡ 32 → place < 32 → k < 32
    → ((j : ℕ) → j < k → slice_index due ((place + j) % 32) ≡ slice_index amounts j) → x ≡ slice_index amounts k
    → (j : ℕ) → j < k + 1 → slice_index (slice_set due ((place + k) % 32) x) ((place + j) % 32) ≡ slice_index amounts j
due_more due amounts place k x len lp lk before here j lt = elim (cases_eq j k) [
  | inl same ↦
      let inside : (place + k) % 32 < length due = omega (arith, len) in
      let at : (place + j) % 32 ≡ (place + k) % 32 = ap (λ (i : ℕ). (place + i) % 32) same in
      ap (λ (i : ℕ). slice_index (slice_set due ((place + k) % 32) x) i) at ∙ get_or-set_same due ((place + k) % 32) x 0 inside ∙ here ∙ ap (slice_index amounts) (sym same)
  | inr other ↦
      let less : j < k = omega (arith, lt, other) in
      let apart : (place + j) % 32 ≢ (place + k) % 32 = λ f. absurd (omega (arith, f, lp, lk, less)) in
      get_or-set_other due ((place + k) % 32) ((place + j) % 32) x 0 apart ∙ before j less
]

pub rotated_is : (due amounts : List ℕ) (place : ℕ) → length due ≡ 32 → length amounts ≡ 32 → place < 32
    → ((j : ℕ) → j < 32 → slice_index due ((place + j) % 32) ≡ slice_index amounts j) → rotated due place ≡ amounts
rotated_is due amounts place lr ld lp same =
    ext_get_or 0 (rotated due place) amounts (length-rotated due place lr lp ∙ sym ld)
    (λ j lt. let inside : j < 32 = omega (arith, lt, length-rotated due place lr lp) in rotated_index due place j ((place + j) % 32) lr lp inside refl ∙ same j inside)
