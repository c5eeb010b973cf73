-- Fields by their places, and the numbers of a column.
use Rattle.std.proofs.Common.{◌≡◌, ℕ, ◌<◌, ◌≤◌, ◌^◌, List, [], map, length, get_or, decimal, refl, ap, sym, ◌∙◌, arith, ℤ, pos, negsuc, unsigned_abs}
use Rattle.std.specs.Fmt.{signed_decimal}
use Rattle.std.proofs.lemmas.Fmt.{decimal_nonempty}
use Rattle.std.proofs.lemmas.List.{get_or_past, get_or_default, get_or-map, length-map}
use Rattle.crn_checkpoint.specs.Inner.Cells.{cell}

cell_past : (rows : List (List (List ℕ))) (row place : ℕ) → length rows ≤ row → cell rows row place ≡ []
cell_past rows row place h = rw (get_or_past rows row [] h) refl

pub no_decimal : (rows : List (List (List ℕ))) (row place n : ℕ) → length rows ≤ row → n < 2 ^ 64 → cell rows row place ≡ decimal n → ⊥
no_decimal rows row place n h lt e =
    let none : length (decimal n) ≡ 0 = ap length (sym e ∙ cell_past rows row place h) in
    omega (arith, none, decimal_nonempty n lt)

signed_some : (z : ℤ) → unsigned_abs z < 2 ^ 63 → 0 < length (signed_decimal z)
signed_some (pos n) h = decimal_nonempty n (omega (arith, h))
signed_some (negsuc n) h = omega arith

pub no_integer : (rows : List (List (List ℕ))) (row place : ℕ) (z : ℤ) → length rows ≤ row → unsigned_abs z < 2 ^ 63 → cell rows row place ≡ signed_decimal z → ⊥
no_integer rows row place z h lt e =
    let none : length (signed_decimal z) ≡ 0 = ap length (sym e ∙ cell_past rows row place h) in
    omega (arith, none, signed_some z lt)

-- the field of the row at an index
pub cell_at : (rows : List (List (List ℕ))) (row place : ℕ) (x : List (List ℕ)) → row < length rows → x ≡ get_or rows row x → cell rows row place ≡ get_or x place []
cell_at rows row place x lt at = ap (λ (f : List (List ℕ)). get_or f place []) (get_or_default rows row [] x lt ∙ sym at)

-- ---- columns

pub record IsIn (f : List (List ℕ) → List ℕ) (xs : List ℕ) (i : ℕ) (x : List (List ℕ)) : Type 0 where
  pub within : i < length xs
  pub spells : f x ≡ decimal (get_or xs i 0)

pub same_length : (f : List (List ℕ) → List ℕ) (rows : List (List (List ℕ))) (xs : List ℕ) → map f rows ≡ map decimal xs → length rows ≡ length xs
same_length f rows xs e = sym (length-map rows f) ∙ ap length e ∙ length-map xs decimal

pub in_column : (f : List (List ℕ) → List ℕ) (rows : List (List (List ℕ))) (xs : List ℕ) (i : ℕ) (x : List (List ℕ)) → map f rows ≡ map decimal xs → i < length rows → x ≡ get_or rows i x → IsIn f xs i x
in_column f rows xs i x e lt at =
    let inside : i < length xs = omega (arith, same_length f rows xs e, lt) in
    record {
      within = inside;
      spells = ap f at ∙ sym (get_or-map f rows i x [] lt) ∙ ap (λ (l : List (List ℕ)). get_or l i []) e ∙ get_or-map decimal xs i 0 [] inside;
    }
