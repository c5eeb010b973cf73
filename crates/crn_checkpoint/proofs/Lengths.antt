-- How many rows of a kind there can be, and how large their numbers.
use Rattle.std.proofs.Common.{◌<◌, None, sum, ◌≡◌, ℕ, zero, suc, ◌+◌, ◌≤◌, ◌∙◌, true, List, [], ◌∷◌, All, length, arith, nat_le}
use Rattle.std.proofs.lemmas.Bool.{and_parts, leb-true}
use Rattle.std.proofs.lemmas.Bool.Decides.{nat_tests}
use Rattle.std.proofs.lemmas.List.Elements.{All-head, All-tail, All-cons, All-nil, All-weaker}
use Rattle.std.proofs.lemmas.List.Sums.{sum_by-cons}
use Rattle.std.proofs.lemmas.Nat.{mul-le}
use Rattle.crn_draw.specs.Faults.{least_weights_fault, rises}
use Rattle.crn_stock.specs.Models.{ModelParts, IsModel, blocks_per_replication, total}
use Rattle.crn_draw.proofs.Rising.{rises_from, rises_zero}
use Rattle.crn_checkpoint.specs.CheckpointText.{due_rows}

length_from : (least : ℕ) (xs : List ℕ) (n : ℕ) → rises_from least xs ≡ true → All (λ x. x ≤ n) xs → least ≤ n + 1 → length xs + least ≤ n + 1
length_from least [] n up high low = omega arith
length_from least (x ∷ xs) n up high low =
    let parts = and_parts (nat_le least x) (rises_from (x + 1) xs) up in
    let here : x ≤ n = All-head (λ y. y ≤ n) x xs high in
    omega (arith, leb-true least x parts.0, length_from (x + 1) xs n parts.1 (All-tail (λ y. y ≤ n) x xs high) (omega arith))

-- numbers that rise strictly are no more than there are numbers up to the last
pub length_of_rising : (xs : List ℕ) (n : ℕ) → rises xs ≡ true → All (λ x. x ≤ n) xs → length xs ≤ n + 1
length_of_rising xs n up high = omega (arith, length_from 0 xs n (rises_zero xs ∙ up) high (omega arith))

-- at most one row for each period that amounts are due in
pub length_due : (t : ℕ) (amounts : List ℕ) → length (due_rows t amounts) ≤ length amounts
length_due t [] = omega arith
length_due t (zero ∷ amounts) = omega (arith, length_due (t + 1) amounts)
length_due t (suc a ∷ amounts) = omega (arith, length_due (t + 1) amounts)

-- ---- numbers that are small enough

pub each_below : (xs : List ℕ) (n : ℕ) → sum xs < n → All (λ x. x < n) xs
each_below [] n h = All-nil (λ x. x < n)
each_below (x ∷ xs) n h =
    let whole : sum (x ∷ xs) ≡ x + sum xs = sum_by-cons (λ (y : ℕ). y) x xs in
    All-cons (λ y. y < n) x xs (omega (arith, whole, h)) (each_below xs n (omega (arith, whole, h)))

pub all_below : (xs : List ℕ) (n m : ℕ) → n < m → All (λ x. x ≤ n) xs → All (λ x. x < m) xs
all_below xs n m h all = All-weaker (λ x. x ≤ n) (λ x. x < m) (λ x k. omega (arith, h, k)) xs all

-- what all blocks of a model are at most
pub total_high : (m : ModelParts) → IsModel m → total m ≤ 65536
total_high m h = omega (arith, mul-le m.replications (blocks_per_replication m.periods) 256 256 h.replications_high (omega (arith, h.periods_high)))

-- ---- values with weights that have no fault

pub lengths_of : (values weights : List ℕ) → least_weights_fault values weights ≡ None → length values ≡ length weights
lengths_of values weights h = grind (arith, nat_tests, h)

pub rising_of : (values weights : List ℕ) → least_weights_fault values weights ≡ None → rises values ≡ true
rising_of values weights h = grind (arith, nat_tests, h)

pub sum_of : (values weights : List ℕ) → least_weights_fault values weights ≡ None → sum weights ≤ 65536
sum_of values weights h = grind (arith, nat_tests, h)
