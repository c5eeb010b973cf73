-- What lanes run: the states and the policies at their seats.
use Rattle.std.proofs.Common.{◌≡◌, ℕ, ◌<◌, ◌≤◌, ℤ, pos, ◌+ℤ◌, ◌≤ℤ◌, sum, List, length, slice_index, Some, slice_get, get_or, refl, sym, subst, arith, All}
use Rattle.std.proofs.lemmas.Int.{ints}
use Rattle.std.proofs.lemmas.Option.{slice_get_read}
use Rattle.std.proofs.lemmas.List.Sums.{get_or-le-sum_by}
use Rattle.std.proofs.lemmas.Bool.Decides.{nat_tests}
use Rattle.crn_stock.specs.Parts.{Parts}
use Rattle.crn_stock.specs.Models.{IsPolicy}
use Rattle.crn_stock.specs.declared.policy.Policy.{Policy}
use Rattle.crn_stock.specs.declared.limits.TheConstants.{LEVEL_LIMIT}
use Rattle.crn_sequential.proofs.Running.{same_of}
use Rattle.crn_lanes.specs.declared.arithmetic.TheConstants.{BIAS}
use Rattle.crn_lanes.specs.Inner.Lanes.{unbiased}
use Rattle.crn_lanes.specs.Inner.Groups.{seat, IsInLimits}
use Rattle.crn_lanes.proofs.Periods.{limit_most}

-- what is read at a lane's seat is what stands there
pub seat_is : {X : Type 0} (xs : List X) (k i : ℕ) (x v : X) → i ≡ seat (length xs) k → i < length xs → x ≡ get_or xs i x → slice_get xs (seat (length xs) k) ≡ Some v → x ≡ v
seat_is {X} xs k i x v at inside is e =
    same_of (slice_get xs i) x v (slice_get_read xs (length xs) i x refl inside is) (subst (λ (j : ℕ). slice_get xs j ≡ Some v) (sym at) e)

-- what a state has on order is less than 2^32
pub due_fits : (v : Parts) (j : ℕ) → IsInLimits v → j < 32 → slice_index v.due j < 4294967296
due_fits v j i lt =
    let r = i.range in
    omega (arith, ints, get_or-le-sum_by (λ (y : ℕ). y) v.due j 0 (omega (arith, r.due_length, lt)), r.position_high, r.stock_low, r.period_high, i.periods, limit_most v.has_returns v.period)

-- the numbers of a state with the bias added are within their limits
pub stock_reaches : (v : Parts) → IsInLimits v → (pos 0 ≤ℤ (v.stock +ℤ pos 10240000)) × ((v.stock +ℤ pos 10240000) ≤ℤ pos 21480000)
stock_reaches v i =
    let r = i.range in
    let most = limit_most v.has_returns v.period in
    (omega (arith, ints, r.stock_low, r.period_high, i.periods), omega (arith, ints, r.stock_high, r.period_high, i.periods, most))

pub position_reaches : (v : Parts) (y : ℤ) → y ≡ v.stock +ℤ pos (sum v.due) → IsInLimits v → (pos 0 ≤ℤ (y +ℤ pos 10240000)) × ((y +ℤ pos 10240000) ≤ℤ pos 21480000)
position_reaches v y is i =
    let r = i.range in
    let most = limit_most v.has_returns v.period in
    (omega (arith, ints, is, r.position_low), omega (arith, ints, is, r.position_high, r.period_high, i.periods, most))

-- what is read at a lane's seat stands there
pub seat_read : {X : Type 0} (xs : List X) (k i : ℕ) (x : X) → i ≡ seat (length xs) k → i < length xs → x ≡ get_or xs i x → slice_get xs (seat (length xs) k) ≡ Some x
seat_read {X} xs k i x at inside is = subst (λ (j : ℕ). slice_get xs j ≡ Some x) at (slice_get_read xs (length xs) i x refl inside is)

-- a policy that is read from some in their ranges is in its own
pub policy_read : (ps : List Policy) (i : ℕ) (p : Policy) → All IsPolicy ps → i < length ps → p ≡ get_or ps i p → IsPolicy p
policy_read ps i p all inside is = subst IsPolicy (sym is) (all i p inside)

pub level_low : (x : ℕ) (p : Policy) → IsPolicy p → unbiased x ≡ p.low → BIAS ≤ x
level_low x p r is = omega (arith, ints, is, r.low)

pub level_order : (x y : ℕ) (p : Policy) → IsPolicy p → unbiased x ≡ p.low → unbiased y ≡ p.high → (x ≤ y) × (unbiased y ≤ℤ LEVEL_LIMIT)
level_order x y p r low high = (omega (arith, ints, low, high, r.order), omega (arith, ints, high, r.high))

-- a seat is a place of the list
pub seat_within : (n k : ℕ) → 0 < n → seat n k < n
seat_within n k some = grind (arith, nat_tests, some)

pub seat_of_lane : (n k : ℕ) → k < n → seat n k ≡ k
seat_of_lane n k lt = grind (arith, nat_tests, lt)
