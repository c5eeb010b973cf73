-- A hexadecimal word is written from its last digit on.
use Rattle.std.proofs.Common.{◌≡◌, ℕ, suc, ◌+◌, ◌/◌, ◌%◌, ◌<◌, false, List, [], ◌∷◌, ◌++◌, sym, subst, ◌≤◌, ◌∙◌, ◌-◌, append_assoc, length, drop, set, arith}
use Rattle.std.proofs.lemmas.List.{drop-set, append-nil}
use Rattle.std.specs.Fmt.{digit_glyph}
use Rattle.crn_spelling.specs.Hex.{hex_digits, hex_word}

one_more : (k n g : ℕ) (text whole : List ℕ) → k < length text → g ≡ digit_glyph false (n % 16) → hex_digits (suc k) n ++ drop (k + 1) text ≡ whole → hex_digits k (n / 16) ++ drop k (set text k g) ≡ whole
one_more k n g text whole lt e h = rw (drop-set text k g lt, e) (sym (append_assoc (hex_digits k (n / 16)) (digit_glyph false (n % 16) ∷ []) (drop (k + 1) text)) ∙ h)

pub turn : (i n g : ℕ) (text whole : List ℕ) → i < 16 → length text ≡ 16 → g ≡ digit_glyph false (n % 16) → hex_digits (16 - i) n ++ drop (16 - i) text ≡ whole → hex_digits (16 - (i + 1)) (n / 16) ++ drop (16 - (i + 1)) (set text (15 - i) g) ≡ whole
turn i n g text whole lt full e h =
    let k = 15 - i in
    let now : 16 - (i + 1) ≡ k = omega arith in
    let was : 16 - i ≡ suc k = omega arith in
    let next : suc k ≡ k + 1 = omega arith in
    let h' : hex_digits (suc k) n ++ drop (k + 1) text ≡ whole = subst (λ (m : ℕ). hex_digits (suc k) n ++ drop m text ≡ whole) next (subst (λ (m : ℕ). hex_digits m n ++ drop m text ≡ whole) was h) in
    rw now (one_more k n g text whole (omega arith) e h')

pub last : (i n : ℕ) (text whole : List ℕ) → 16 ≤ i → hex_digits (16 - i) n ++ drop (16 - i) text ≡ whole → text ≡ whole
last i n text whole le h =
    let none : 16 - i ≡ 0 = omega arith in
    subst (λ (m : ℕ). hex_digits m n ++ drop m text ≡ whole) none h

pub start : (n : ℕ) → hex_digits (16 - 0) n ++ drop (16 - 0) (48 ∷ 48 ∷ 48 ∷ 48 ∷ 48 ∷ 48 ∷ 48 ∷ 48 ∷ 48 ∷ 48 ∷ 48 ∷ 48 ∷ 48 ∷ 48 ∷ 48 ∷ 48 ∷ []) ≡ hex_word n
unfolding hex_word
start n = append-nil (hex_digits 16 n)
