-- Rows that are filled one number after another, and columns of rows.
use Rattle.std.proofs.Common.{◌≡◌, ℕ, suc, ◌+◌, ◌<◌, ◌≤◌, List, [], ◌∷◌, ◌++◌, take, length, slice_index, slice_index_or, slice_set, replicate, sum, get_or-set_same, get_or-set_other, refl, sym, ap, subst, ◌∙◌, arith, inl, inr}
use Rattle.std.proofs.lemmas.Bool.{cases_eq}
use Rattle.std.proofs.Math.ListN.{length-set}
use Rattle.std.proofs.lemmas.List.{map-set, map-append, get_or-map, length-map}
use Rattle.std.proofs.Math.Seq.{take-suc}
use Rattle.std.proofs.lemmas.List.Sums.{sum_by-set, get_or-le-sum_by}
use Rattle.crn_lanes.specs.Inner.Lanes.{IsRowOf, column}

-- before any number is set
pub row_begun : (P : ℕ → ℕ → Type 0) (row : List ℕ) → length row ≡ 16 → IsRowOf P 0 row
row_begun P row len = record { length_is = len; each = λ k lt. absurd (omega (arith, lt)) }

-- one number more
pub row_more : (P : ℕ → ℕ → Type 0) (n : ℕ) (row : List ℕ) (x : ℕ) → n < 16 → P n x → IsRowOf P n row → IsRowOf P (n + 1) (slice_set row n x)
row_more P n row x lt has r = record {
  length_is = length-set row n x ∙ r.length_is;
  each = λ k k-lt. elim (cases_eq k n) [
    | inl same ↦
        let here : x ≡ slice_index (slice_set row n x) k = sym (ap (λ (i : ℕ). slice_index (slice_set row n x) i) same ∙ get_or-set_same row n x 0 (omega (arith, r.length_is, lt))) in
        subst (λ (i : ℕ). P i (slice_index (slice_set row n x) k)) (sym same) (subst (P n) here has)
    | inr other ↦ subst (P k) (sym (get_or-set_other row n k x 0 other)) (r.each k (omega (arith, k-lt, other)))
  ];
}

pub length-column : (rows : List (List ℕ)) (k : ℕ) → length (column rows k) ≡ length rows
length-column rows k = length-map rows (λ (row : List ℕ). slice_index row k)

pub column_set : (rows : List (List ℕ)) (i k : ℕ) (row : List ℕ) → column (slice_set rows i row) k ≡ slice_set (column rows k) i (slice_index row k)
column_set rows i k row = map-set (λ (r : List ℕ). slice_index r k) rows i row

pub column_index : (rows : List (List ℕ)) (i k : ℕ) → i < length rows → slice_index (column rows k) i ≡ slice_index (slice_index_or rows i []) k
column_index rows i k lt = get_or-map (λ (r : List ℕ). slice_index r k) rows i [] 0 lt

-- a row that is cleared, and an amount that is added in another
pub column_turned : (due : List (List ℕ)) (i q k z : ℕ) (cleared row : List ℕ) → length due ≡ 32 → q < 32 → slice_index cleared k ≡ 0
    → slice_index row k ≡ slice_index (slice_index_or (slice_set due i cleared) q []) k + z
    → column (slice_set (slice_set due i cleared) q row) k ≡ slice_set (slice_set (column due k) i 0) q (slice_index (slice_set (column due k) i 0) q + z)
column_turned due i q k z cleared row len lt none is =
    let base = slice_set due i cleared in
    let first : column base k ≡ slice_set (column due k) i 0 = column_set due i k cleared ∙ ap (slice_set (column due k) i) none in
    let inside : q < length base = omega (arith, length-set due i cleared, len, lt) in
    let here : slice_index row k ≡ slice_index (column base k) q + z = is ∙ ap (λ (n : ℕ). n + z) (sym (column_index base q k inside)) in
    column_set base q k row ∙ (λ j. slice_set (first j) q (here j)) ∙ ap (λ (l : List ℕ). slice_set (slice_set (column due k) i 0) q (slice_index l q + z)) first

zeros : (n k : ℕ) → slice_index (replicate n 0) k ≡ 0
zeros (suc n) (suc k) = zeros n k
zeros n k = refl

pub no_amounts : (k : ℕ) → slice_index (replicate 16 0) k ≡ 0
no_amounts k = zeros 16 k

-- what is added to the sum where one amount is taken out, and one is added in another place
pub sum_turned : (l : List ℕ) (i q z : ℕ) → i < length l → q < length l → sum (slice_set (slice_set l i 0) q (slice_index (slice_set l i 0) q + z)) + slice_index l i ≡ sum l + z
sum_turned l i q z li lq =
    let base = slice_set l i 0 in
    let inside : q < length base = omega (arith, length-set l i 0, lq) in
    omega (arith, sum_by-set (λ (y : ℕ). y) l i 0 0 li, sum_by-set (λ (y : ℕ). y) base q (slice_index base q + z) 0 inside)

-- an amount is no more than the sum, also where another is taken out
pub amount_within : (due : List (List ℕ)) (i q k : ℕ) (cleared : List ℕ) → length due ≡ 32 → i < 32 → q < 32 → slice_index cleared k ≡ 0
    → slice_index (slice_index_or (slice_set due i cleared) q []) k ≤ sum (column due k)
amount_within due i q k cleared len li lq none =
    let base = slice_set due i cleared in
    let col = column due k in
    let inside : q < length base = omega (arith, length-set due i cleared, len, lq) in
    let first : column base k ≡ slice_set col i 0 = column_set due i k cleared ∙ ap (slice_set col i) none in
    let long : length col ≡ 32 = length-column due k ∙ len in
    let at : slice_index (slice_set col i 0) q ≤ sum (slice_set col i 0) = get_or-le-sum_by (λ (y : ℕ). y) (slice_set col i 0) q 0 (omega (arith, length-set col i 0, long, lq)) in
    omega (arith, at, sum_by-set (λ (y : ℕ). y) col i 0 0 (omega (arith, long, li)), column_index base q k inside, ap (λ (l : List ℕ). slice_index l q) first)

-- a column with one row more
pub column_more : (rows : List (List ℕ)) (row : List ℕ) (k : ℕ) → column (rows ++ row ∷ []) k ≡ column rows k ++ slice_index row k ∷ []
column_more rows row k = map-append (λ (r : List ℕ). slice_index r k) rows (row ∷ [])

pub column_taken : (rows : List (List ℕ)) (r k : ℕ) → r < length rows → column (take (r + 1) rows) k ≡ column (take r rows) k ++ slice_index (slice_index_or rows r []) k ∷ []
column_taken rows r k lt =
    let one : r + 1 ≡ suc r = omega arith in
    ap (λ (n : ℕ). column (take n rows) k) one ∙ ap (λ (l : List (List ℕ)). column l k) (take-suc rows r [] lt) ∙ column_more (take r rows) (slice_index_or rows r []) k
