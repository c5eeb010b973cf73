-- The field at a place of a row, and the numbers that fields spell.
use Rattle.std.proofs.Common.{◌≡◌, ℕ, ◌<◌, ◌^◌, zero, suc, Option, Some, None, List, [], ◌∷◌, decimal, refl, rules, arith, get_or, sym, ◌∙◌, ap, ℤ, pos, negsuc, Result, Ok, Err, unsigned_abs, option_map, IsUtf8, FitsSigned, w64, to_z, of_z, Bor}
use lib.Signed.{mag}
use Rattle.std.specs.Str.Parse.{ParsesSigned}
use Rattle.std.proofs.lemmas.Int.{to_z-of_z}
use Rattle.std.proofs.lemmas.Fmt.{IsAscii-decimal, IsAscii-signed, parse-signed_decimal}
use Rattle.std.proofs.lemmas.Str.{IsUtf8-from_ascii}
use Rattle.std.specs.Fmt.{signed_decimal}
use Rattle.csv.specs.Records.{field_at}

pub found : (fs : List (List ℕ)) (i : ℕ) (f : List ℕ) → field_at fs i ≡ Some f → get_or fs i [] ≡ f
unfolding field_at
found (g ∷ fs) (suc i) f e = found fs i f e
found fs i f e = cc

pub missing : (fs : List (List ℕ)) (i : ℕ) → field_at fs i ≡ None → get_or fs i [] ≡ []
unfolding field_at
missing [] i e = refl
missing (g ∷ fs) zero e = cc
missing (g ∷ fs) (suc i) e = missing fs i e

pub decimal_utf8 : (f : List ℕ) (n : ℕ) → n < 2 ^ 64 → f ≡ decimal n → IsUtf8 f
decimal_utf8 f n lt e = rw e (IsUtf8-from_ascii (decimal n) (IsAscii-decimal n lt))

pub same_ok : {T E : Type 0} (r : Result T E) (a b : T) → r ≡ Ok a → r ≡ Ok b → a ≡ b
same_ok r a b h k = cc

pub never_err : {T E : Type 0} (r : Result T E) (e : E) (b : T) → r ≡ Err e → r ≡ Ok b → ⊥
never_err r e b h k = cc

fits : (z : ℤ) → unsigned_abs z < 2 ^ 63 → FitsSigned w64 z
fits (pos n) h = search (rules, h)
fits (negsuc n) h = search (rules, h)

small : (z : ℤ) → unsigned_abs z < 2 ^ 63 → mag z < 2 ^ 63
small (pos n) h = h
small (negsuc n) h = omega (arith, h)

pub read_signed : {E : Type 0} (z : ℤ) (bs : List ℕ) (r : Result ℤ E) → unsigned_abs z < 2 ^ 63 → bs ≡ signed_decimal z → ParsesSigned w64 10 bs r → r ≡ Ok z
read_signed z bs r h e p = parse-signed_decimal w64 z bs r (fits z h) (small z h) e p

pub signed_utf8 : (f : List ℕ) (z : ℤ) → unsigned_abs z < 2 ^ 63 → f ≡ signed_decimal z → IsUtf8 f
signed_utf8 f z h e = rw e (IsUtf8-from_ascii (signed_decimal z) (IsAscii-signed z (small z h)))

pub back : (n z : ℤ) → unsigned_abs z < 2 ^ 63 → n ≡ z → to_z w64 (of_z w64 n) ≡ z
back n z h e = rw e (to_z-of_z w64 z (fits z h))

pub found_at : (r : Option (Bor (List ℕ))) (x : Bor (List ℕ)) (fs gs : List (List ℕ)) (i : ℕ) → r ≡ Some x → option_map (λ (s : Bor (List ℕ)). s.now) r ≡ field_at fs i → fs ≡ gs → x.now ≡ get_or gs i []
found_at r x fs gs i e h same =
    let some : field_at fs i ≡ Some x.now = sym h ∙ ap (λ (o : Option (Bor (List ℕ))). option_map (λ (s : Bor (List ℕ)). s.now) o) e in
    sym (found fs i x.now some) ∙ ap (λ (hs : List (List ℕ)). get_or hs i []) same

pub missing_at : (r : Option (Bor (List ℕ))) (fs gs : List (List ℕ)) (i : ℕ) → r ≡ None → option_map (λ (s : Bor (List ℕ)). s.now) r ≡ field_at fs i → fs ≡ gs → [] ≡ get_or gs i []
missing_at r fs gs i e h same =
    let none : field_at fs i ≡ None = sym h ∙ ap (λ (o : Option (Bor (List ℕ))). option_map (λ (s : Bor (List ℕ)). s.now) o) e in
    sym (missing fs i none) ∙ ap (λ (hs : List (List ℕ)). get_or hs i []) same
