-- Sums of products of i128 that fit are the sums of products of their numbers.
use Rattle.std.proofs.Common.{◌≡◌, ℕ, ◌*◌, ◌<◌, ◌≤◌, ◌^◌, ℤ, ◌*ℤ◌, ◌+ℤ◌, ◌-ℤ◌, unsigned_abs, FitsSigned, to_z, of_z, arith}
use Rattle.std.specs.Int.{w128}
use Rattle.std.proofs.lemmas.Int.{ints, unsigned_abs-mul, fits_signed_from_abs, to_z-of_z}
use Rattle.std.proofs.Math.Nat.{mul-le-mul_left}
use Rattle.crn_pair.specs.declared.compare.TheConstants.{COST_LIMIT}

fits : (z : ℤ) → unsigned_abs z < 2 ^ 127 → FitsSigned w128 z
fits z low = fits_signed_from_abs w128 z low

product_low : (x y : ℤ) (m n : ℕ) → unsigned_abs x ≤ m → unsigned_abs y ≤ n → unsigned_abs (x *ℤ y) ≤ m * n
product_low x y m n low_x low_y =
    let size = unsigned_abs-mul x y in
    let by_y = mul-le-mul_left (unsigned_abs x) low_y in
    let by_x = mul-le-mul_left n low_x in
    omega (arith, size, by_y, by_x)

module _ (p x y : ℤ) (low_p : unsigned_abs p ≤ 255 * (COST_LIMIT * COST_LIMIT)) (low_x : unsigned_abs x ≤ COST_LIMIT) (low_y : unsigned_abs y ≤ COST_LIMIT) where
  pub sum_is : to_z w128 (of_z w128 (to_z w128 (of_z w128 p) +ℤ to_z w128 (of_z w128 (to_z w128 (of_z w128 x) *ℤ to_z w128 (of_z w128 y))))) ≡ p +ℤ x *ℤ y
  sum_is =
      let low = product_low x y COST_LIMIT COST_LIMIT low_x low_y in
      let fp = to_z-of_z w128 p (fits p (omega (arith, low_p))) in
      let fx = to_z-of_z w128 x (fits x (omega (arith, low_x))) in
      let fy = to_z-of_z w128 y (fits y (omega (arith, low_y))) in
      let fm = to_z-of_z w128 (x *ℤ y) (fits (x *ℤ y) (omega (arith, low))) in
      let fs = to_z-of_z w128 (p +ℤ x *ℤ y) (fits (p +ℤ x *ℤ y) (omega (arith, ints, low, low_p))) in
      rw (fp, fx, fy, fm) fs

module _ (n p x y : ℤ) (low_n : unsigned_abs n ≤ 256) (low_p : unsigned_abs p ≤ 256 * (COST_LIMIT * COST_LIMIT))
    (low_x : unsigned_abs x ≤ 256 * COST_LIMIT) (low_y : unsigned_abs y ≤ 256 * COST_LIMIT) where
  low_np : unsigned_abs (n *ℤ p) ≤ 256 * (256 * (COST_LIMIT * COST_LIMIT))
  low_np = product_low n p 256 (256 * (COST_LIMIT * COST_LIMIT)) low_n low_p

  low_xy : unsigned_abs (x *ℤ y) ≤ (256 * COST_LIMIT) * (256 * COST_LIMIT)
  low_xy = product_low x y (256 * COST_LIMIT) (256 * COST_LIMIT) low_x low_y

  fn : to_z w128 (of_z w128 n) ≡ n
  fn = to_z-of_z w128 n (fits n (omega (arith, low_n)))

  fp : to_z w128 (of_z w128 p) ≡ p
  fp = to_z-of_z w128 p (fits p (omega (arith, low_p)))

  fx : to_z w128 (of_z w128 x) ≡ x
  fx = to_z-of_z w128 x (fits x (omega (arith, low_x)))

  fy : to_z w128 (of_z w128 y) ≡ y
  fy = to_z-of_z w128 y (fits y (omega (arith, low_y)))

  fnp : to_z w128 (of_z w128 (n *ℤ p)) ≡ n *ℤ p
  fnp = to_z-of_z w128 (n *ℤ p) (fits (n *ℤ p) (omega (arith, low_np)))

  fxy : to_z w128 (of_z w128 (x *ℤ y)) ≡ x *ℤ y
  fxy = to_z-of_z w128 (x *ℤ y) (fits (x *ℤ y) (omega (arith, low_xy)))

  difference_fits : FitsSigned w128 (n *ℤ p -ℤ x *ℤ y)
  difference_fits = fits (n *ℤ p -ℤ x *ℤ y) (omega (arith, ints, low_np, low_xy))

  pub difference_is : to_z w128 (of_z w128 (to_z w128 (of_z w128 (to_z w128 (of_z w128 n) *ℤ to_z w128 (of_z w128 p)))
      -ℤ to_z w128 (of_z w128 (to_z w128 (of_z w128 x) *ℤ to_z w128 (of_z w128 y))))) ≡ n *ℤ p -ℤ x *ℤ y
  difference_is = rw (fn, fp, fx, fy, fnp, fxy) (to_z-of_z w128 (n *ℤ p -ℤ x *ℤ y) difference_fits)

  pub difference_within : FitsSigned w128 (to_z w128 (of_z w128 (to_z w128 (of_z w128 n) *ℤ to_z w128 (of_z w128 p)))
      -ℤ to_z w128 (of_z w128 (to_z w128 (of_z w128 x) *ℤ to_z w128 (of_z w128 y))))
  difference_within = rw (fn, fp, fx, fy, fnp, fxy) difference_fits
