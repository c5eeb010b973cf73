-- A row of plain fields is written as it is.
use Rattle.std.proofs.Common.{◌≡◌, ℕ, ℤ, pos, negsuc, ◌+◌, ◌%◌, ◌<◌, ◌^◌, nat_le, nat_lt, Bool, true, false, List, [], ◌∷◌, ◌++◌, length, decimal, suc, refl, arith, Result, Ok, Err, IsErrAnd, MatchResult, OnOk, is_ok}
use Rattle.std.proofs.lemmas.Bool.{and_parts}
use Rattle.std.proofs.lemmas.Bool.Decides.{nat_tests}
use Rattle.std.proofs.lemmas.Fmt.{decimal_by_steps_wide}
use lib.Signed.{mag}
use Rattle.std.specs.Fmt.{signed_decimal}
use Rattle.csv.specs.Writing as csv
use Rattle.csv.specs.declared.writer.WriterBuilder.{WriterBuilder}
use Rattle.csv.specs.Writing.{default_writer, with_flexible, needs_byte, needs_quotes, field_text, fields_text, is_blank}
use Rattle.crn_rows.specs.Plain.{is_plain, is_plain_byte, are_plain, is_row}
use Rattle.crn_rows.specs.Rows.{row_text, further}

-- a writer with the defaults, whether or not rows may differ in their number of fields
abbrev writer : Bool → WriterBuilder
writer flexible = with_flexible default_writer flexible

needs_none : (flexible : Bool) (b : ℕ) → is_plain_byte b ≡ true → needs_byte (writer flexible) b ≡ false
needs_none flexible b h = let (low, high) = and_parts (nat_le 45 b) (nat_lt b 128) h in grind (arith, nat_tests, low)

no_quotes : (flexible : Bool) (f : List ℕ) → is_plain f ≡ true → needs_quotes (writer flexible) f ≡ false
no_quotes flexible [] h = refl
no_quotes flexible (b ∷ bs) h =
    let (here, more) = and_parts (is_plain_byte b) (is_plain bs) h in
    rw (needs_none flexible b here, no_quotes flexible bs more)

field_plain : (flexible : Bool) (f : List ℕ) → is_plain f ≡ true → field_text (writer flexible) f ≡ f
field_plain flexible f h = rw (no_quotes flexible f h)

fields_plain : (flexible : Bool) (fs : List (List ℕ)) → are_plain fs ≡ true → fields_text (writer flexible) fs ≡ further fs
unfolding fields_text
fields_plain flexible [] h = refl
fields_plain flexible (f ∷ fs) h =
    let (here, more) = and_parts (is_plain f) (are_plain fs) h in
    rw (field_plain flexible f here, fields_plain flexible fs more)

row_of_two : (flexible : Bool) (f g : List ℕ) (fs : List (List ℕ)) → are_plain (f ∷ g ∷ fs) ≡ true → csv.row_text (writer flexible) (f ∷ g ∷ fs) ≡ row_text (f ∷ g ∷ fs)
unfolding is_blank row_text
row_of_two flexible f g fs h =
    let (here, more) = and_parts (is_plain f) (are_plain (g ∷ fs)) h in
    rw (field_plain flexible f here, fields_plain flexible (g ∷ fs) more)

pub row_plain : (flexible : Bool) (fs : List (List ℕ)) → 1 < length fs → are_plain fs ≡ true → csv.row_text (writer flexible) fs ≡ row_text fs
row_plain flexible (f ∷ g ∷ fs) several h = row_of_two flexible f g fs h
row_plain flexible fs several h = absurd (omega arith)

-- ---- texts that are plain

pub plain_append : (xs ys : List ℕ) → is_plain xs ≡ true → is_plain ys ≡ true → is_plain (xs ++ ys) ≡ true
plain_append [] ys h k = k
plain_append (x ∷ xs) ys h k =
    let (here, more) = and_parts (is_plain_byte x) (is_plain xs) h in
    rw (here, plain_append xs ys more k)

digit_plain : (d : ℕ) → d < 10 → is_plain ((48 + d) ∷ []) ≡ true
digit_plain d h = grind (arith, nat_tests, h)

pub decimal_plain : (n : ℕ) → n < 10 ^ 64 → is_plain (decimal n) ≡ true
decimal_plain n h = decimal_by_steps_wide (λ _ bs. is_plain bs ≡ true) (λ m k. digit_plain m k) (λ m ds k p. plain_append ds _ p (digit_plain (m % 10) (omega arith))) n h

pub signed_plain : (z : ℤ) → mag z < 2 ^ 127 → is_plain (signed_decimal z) ≡ true
signed_plain (pos n) h = decimal_plain n (omega arith)
signed_plain (negsuc n) h = decimal_plain (suc n) (omega arith)

-- ---- rows of plain fields

pub row_parts : (fs : List (List ℕ)) → is_row fs ≡ true → (1 < length fs) × (are_plain fs ≡ true)
row_parts fs h =
    let (several, plain) = and_parts (nat_lt 1 (length fs)) (are_plain fs) h in
    (grind (arith, nat_tests, several), plain)

pub row_written : (flexible : Bool) (fs : List (List ℕ)) → is_row fs ≡ true → csv.row_text (with_flexible default_writer flexible) fs ≡ row_text fs
row_written flexible fs h = let (several, plain) = row_parts fs h in row_plain flexible fs several plain

-- ---- what an answer that is no error ensures

pub ok_of : {T E P : Type 0} (r : Result T E) → is_ok r ≡ true → OnOk r P → P
ok_of (Ok x) e h = h
ok_of (Err x) e h = cc

-- with another error in place of its own an answer keeps its value
pub before_map : {T E D : Type 0} (r : Result T E) (mapped : Result T D) (x : T) (P : E → D → Type 0) → mapped ≡ Ok x
    → MatchResult r (λ y. mapped ≡ Ok y) (λ e. IsErrAnd mapped (P e)) → r ≡ Ok x
before_map (Err e) (Ok y) x P m h = absurd h
before_map r mapped x P m h = cc
