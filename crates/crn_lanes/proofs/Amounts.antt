-- Amounts with the bias added, and the amounts that they stand for.
use Rattle.std.proofs.Common.{◌≡◌, ℕ, ◌+◌, ◌-◌, ◌*◌, ◌<◌, ◌≤◌, pos, negsuc, ◌+ℤ◌, ◌-ℤ◌, ◌≤ℤ◌, ◌⊎◌, inl, inr, Bool, true, false, cond, nat_lt, int_lt, unsigned_abs, refl, sym, ap, subst, ◌∙◌, arith}
use Rattle.std.proofs.lemmas.Int.{ints}
use Rattle.std.proofs.lemmas.Bool.{cases_lt}
use Rattle.std.proofs.lemmas.Bool.Decides.{nat_tests}
use Rattle.std.proofs.lemmas.Nat.{mul-le}
use Rattle.crn_stock.specs.Stock.{order_quantity, on_hand, on_backlog, cost_of}
use Rattle.crn_stock.specs.declared.limits.TheConstants.{LEVEL_LIMIT, PERIOD_COST_LIMIT}
use Rattle.crn_lanes.specs.declared.arithmetic.TheConstants.{BIAS, STOCK_LIMIT}
use Rattle.crn_lanes.specs.Inner.Lanes.{order_of, unbiased}

test_less : (p low x : ℕ) → p < low → cond (nat_lt p low) x 0 ≡ x
test_less p low x lt = grind (arith, nat_tests)

test_more : (p low x : ℕ) → low ≤ p → cond (nat_lt p low) x 0 ≡ 0
test_more p low x le = grind (arith, nat_tests)

-- an order, by cases
pub order_cases : (low high p : ℕ) → ((p < low) × (order_of low high p ≡ high - p)) ⊎ ((low ≤ p) × (order_of low high p ≡ 0))
order_cases low high p = elim (cases_lt p low) [
  | inl lt ↦ inl (lt, test_less p low (high - p) lt)
  | inr le ↦ inr (le, test_more p low (high - p) le)
]

-- numbers with the same bias give the order of the amounts
pub order_is : (low high p : ℕ) → low ≤ high → order_of low high p ≡ order_quantity (unbiased low) (unbiased high) (unbiased p)
unfolding order_quantity
order_is low high p le = by (int_lt (unbiased p) (unbiased low)) refl
  where
    by : (t : Bool) → int_lt (unbiased p) (unbiased low) ≡ t → order_of low high p ≡ cond t (unsigned_abs (unbiased high -ℤ unbiased p)) 0
    by true e =
        let lt : p < low = omega (arith, ints) in
        let gap : (unbiased high -ℤ unbiased p) ≡ pos (high - p) = omega (arith, ints, le, lt) in
        test_less p low (high - p) lt ∙ sym (ap unsigned_abs gap)
    by false e = let ge : low ≤ p = omega (arith, ints) in test_more p low (high - p) ge

-- what a stock has on hand and on backlog, by the greater of its number and the bias
module _ (s m : ℕ) (below : s < BIAS → m ≡ BIAS) (above : BIAS ≤ s → m ≡ s) where
  pub on_hand_is : on_hand (unbiased s) ≡ m - BIAS
  on_hand_is = elim (cases_lt s BIAS) [
    | inl lt ↦ let is : unbiased s ≡ negsuc (BIAS - s - 1) = omega (arith, ints, lt) in ap on_hand is ∙ sym (let e = below lt in omega (arith, e))
    | inr le ↦ let is : unbiased s ≡ pos (s - BIAS) = omega (arith, ints, le) in ap on_hand is ∙ (let e = above le in omega (arith, e))
  ]

  pub on_backlog_is : on_backlog (unbiased s) ≡ m - s
  on_backlog_is = elim (cases_lt s BIAS) [
    | inl lt ↦ let is : unbiased s ≡ negsuc (BIAS - s - 1) = omega (arith, ints, lt) in ap on_backlog is ∙ (let e = below lt in omega (arith, e, lt))
    | inr le ↦ let is : unbiased s ≡ pos (s - BIAS) = omega (arith, ints, le) in ap on_backlog is ∙ (let e = above le in omega (arith, e))
  ]

  -- a period's cost is within its limit
  pub cost_within : (f u z h b : ℕ) → f ≤ 100000000 → u ≤ 10000 → z ≤ 1010000 → h ≤ 10000 → b ≤ 10000 → s ≤ STOCK_LIMIT → f + u * z + h * (m - BIAS) + b * (m - s) ≤ PERIOD_COST_LIMIT
  cost_within f u z h b lf lu lz lh lb ls =
      let order : u * z ≤ 10000 * 1010000 = mul-le u z 10000 1010000 lu lz in
      elim (cases_lt s BIAS) [
        | inl lt ↦ let e = below lt in
            omega (arith, lf, order, mul-le h (m - BIAS) 10000 0 lh (omega (arith, e)), mul-le b (m - s) 10000 10240000 lb (omega (arith, e)))
        | inr le ↦ let e = above le in
            omega (arith, lf, order, mul-le h (m - BIAS) 10000 11240000 lh (omega (arith, e, ls)), mul-le b (m - s) 10000 0 lb (omega (arith, e)))
      ]

  pub cost_is : (f u z h b f' u' h' b' : ℕ) → f' ≡ cond (nat_lt 0 z) f 0 → u' ≡ u * z → h' ≡ h * (m - BIAS) → b' ≡ b * (m - s) → f' + u' + h' + b' ≡ cost_of f u h b z (unbiased s)
  unfolding cost_of
  cost_is f u z h b f' u' h' b' ef eu eh eb = λ i. ef i + eu i + (eh ∙ ap (λ (n : ℕ). h * n) (sym on_hand_is)) i + (eb ∙ ap (λ (n : ℕ). b * n) (sym on_backlog_is)) i

setup_within : (z f : ℕ) → cond (nat_lt 0 z) f 0 ≤ f
setup_within z f = grind (arith, nat_tests)

pub cost_limit : (f u h b z s : ℕ) → f ≤ 100000000 → u ≤ 10000 → h ≤ 10000 → b ≤ 10000 → z ≤ 1010000 → s ≤ STOCK_LIMIT → cost_of f u h b z (unbiased s) ≤ PERIOD_COST_LIMIT
cost_limit f u h b z s lf lu lh lb lz ls =
    let m = BIAS + (s - BIAS) in
    let below : s < BIAS → m ≡ BIAS = λ lt. omega (arith, lt) in
    let above : BIAS ≤ s → m ≡ s = λ le. omega (arith, le) in
    let is : cond (nat_lt 0 z) f 0 + u * z + h * (m - BIAS) + b * (m - s) ≡ cost_of f u h b z (unbiased s) = cost_is s m below above f u z h b _ _ _ _ refl refl refl refl in
    let within = cost_within s m below above (cond (nat_lt 0 z) f 0) u z h b (omega (arith, setup_within z f, lf)) lu lz lh lb ls in
    subst (λ (n : ℕ). n ≤ PERIOD_COST_LIMIT) is within

-- an order that is placed by levels in their range
module _ (low high y z : ℕ) (order : low ≤ high) (top : unbiased high ≤ℤ LEVEL_LIMIT) (base : BIAS ≤ low) (is : z ≡ order_of low high y) where
  pub order_reaches : (limit : ℕ) → LEVEL_LIMIT ≤ℤ pos limit → unbiased y ≤ℤ pos limit → (unbiased y +ℤ pos z) ≤ℤ pos limit
  order_reaches limit least le = elim (order_cases low high y) [
    | inl less ↦ let lt = less.0 in let e = less.1 in omega (arith, ints, lt, e, is, order, top, least)
    | inr more ↦ let e = more.1 in omega (arith, ints, e, is, le)
  ]

  pub order_raises : pos 0 ≤ℤ (unbiased y +ℤ pos z)
  order_raises = elim (order_cases low high y) [
    | inl less ↦ let lt = less.0 in let e = less.1 in omega (arith, ints, lt, e, is, order, base)
    | inr more ↦ let le = more.0 in let e = more.1 in omega (arith, ints, le, e, is, base)
  ]

  pub order_within : BIAS ≤ y + 10000 → z ≤ 1010000
  order_within near = elim (order_cases low high y) [
    | inl less ↦ let lt = less.0 in let e = less.1 in omega (arith, ints, lt, e, is, order, top, near)
    | inr more ↦ let e = more.1 in omega (arith, e, is)
  ]
