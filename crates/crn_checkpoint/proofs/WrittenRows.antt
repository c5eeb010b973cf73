-- Rows that are written one after another.
use Rattle.std.proofs.Common.{◌≡◌, ℕ, zero, suc, ◌+◌, ◌<◌, List, [], ◌∷◌, ◌++◌, length, drop, get_or, slice_index, refl, ap, sym, ◌∙◌, append_assoc, add-one, arith, append-nil}
use Rattle.std.proofs.Math.Seq.{drop-cons}
use Rattle.crn_stock.specs.declared.policy.Policy.{Policy}
use Rattle.crn_stock.specs.Parts.{Parts}
use Rattle.crn_rows.specs.Rows.{row_text, rows_text}
use Rattle.crn_checkpoint.specs.CheckpointText.{due_rows, policy_rows, all_policy_rows}

pub text_append : (rs ss : List (List (List ℕ))) → rows_text (rs ++ ss) ≡ rows_text rs ++ rows_text ss
text_append [] ss = refl
text_append (r ∷ rs) ss = ap (λ (t : List ℕ). row_text r ++ t) (text_append rs ss) ∙ sym (append_assoc (row_text r) (rows_text rs) (rows_text ss))

-- the first of the rows that were left are written
pub first_written : (rs ss : List (List (List ℕ))) (text text' whole : List ℕ) → text' ≡ text ++ rows_text rs → text ++ rows_text (rs ++ ss) ≡ whole → text' ++ rows_text ss ≡ whole
first_written rs ss text text' whole e h =
    rw e (append_assoc text (rows_text rs) (rows_text ss) ∙ ap (λ (t : List ℕ). text ++ t) (sym (text_append rs ss)) ∙ h)

-- two rows, then two lists of rows
pub rows_in_turn : (r s : List (List ℕ)) (rs ss : List (List (List ℕ))) (text : List ℕ) → (((text ++ row_text r) ++ row_text s) ++ rows_text rs) ++ rows_text ss ≡ text ++ rows_text (r ∷ s ∷ rs ++ ss)
rows_in_turn r s rs ss text = rw text_append (simp append_assoc)

-- four rows, then two lists of rows
pub four_in_turn : (a b c d : List (List ℕ)) (rs ss : List (List (List ℕ))) (text : List ℕ)
    → (((((text ++ row_text a) ++ row_text b) ++ row_text c) ++ row_text d) ++ rows_text rs) ++ rows_text ss ≡ text ++ rows_text (a ∷ b ∷ c ∷ d ∷ rs ++ ss)
four_in_turn a b c d rs ss text = rw text_append (simp append_assoc)

-- three lists of rows
pub lists_in_turn : (rs ss ts : List (List (List ℕ))) (text : List ℕ) → ((text ++ rows_text rs) ++ rows_text ss) ++ rows_text ts ≡ text ++ rows_text (rs ++ ss ++ ts)
lists_in_turn rs ss ts text = rw (text_append (rs ++ ss) ts, text_append rs ss) (simp append_assoc)

-- two lists of rows, then a row, from the first on
pub whole_in_turn : (rs ss : List (List (List ℕ))) (r : List (List ℕ)) → (([] ++ rows_text rs) ++ rows_text ss) ++ row_text r ≡ rows_text ((rs ++ ss) ++ r ∷ [])
whole_in_turn rs ss r = rw (text_append (rs ++ ss) (r ∷ []), text_append rs ss) (ap (λ (t : List ℕ). (rows_text rs ++ rows_text ss) ++ t) (sym (append-nil (row_text r))))

due_apart : (t a : ℕ) (amounts : List ℕ) → due_rows t (a ∷ amounts) ≡ due_rows t (a ∷ []) ++ due_rows (t + 1) amounts
due_apart t zero amounts = refl
due_apart t (suc a) amounts = refl

pub due_written : (t i : ℕ) (due : List ℕ) (a : ℕ) (text text' whole : List ℕ) → i < length due → a ≡ slice_index due i → text' ≡ text ++ rows_text (due_rows (t + i) (a ∷ []))
    → text ++ rows_text (due_rows (t + i) (drop i due)) ≡ whole → text' ++ rows_text (due_rows (t + (i + 1)) (drop (i + 1) due)) ≡ whole
due_written t i due a text text' whole inside is e h =
    let next : t + (i + 1) ≡ t + i + 1 = omega arith in
    let rest : drop i due ≡ a ∷ drop (i + 1) due = rw (add-one, is) (drop-cons due i 0 inside) in
    let apart = due_apart (t + i) a (drop (i + 1) due) in
    rw next (first_written (due_rows (t + i) (a ∷ [])) (due_rows (t + i + 1) (drop (i + 1) due)) text text' whole e (rw (rest, apart) at h))

pub policy_written : (ps : List Policy) (vs : List Parts) (i : ℕ) (p : Policy) (v : Parts) (text text' whole : List ℕ) → i < length ps → i < length vs → p ≡ get_or ps i p → v ≡ get_or vs i v
    → text' ≡ text ++ rows_text (policy_rows p v)
    → text ++ rows_text (all_policy_rows (drop i ps) (drop i vs)) ≡ whole → text' ++ rows_text (all_policy_rows (drop (i + 1) ps) (drop (i + 1) vs)) ≡ whole
policy_written ps vs i p v text text' whole inside_ps inside_vs is_p is_v e h =
    let rest_ps : drop i ps ≡ p ∷ drop (i + 1) ps = rw add-one (drop-cons ps i p inside_ps ∙ ap (λ (q : Policy). q ∷ drop (suc i) ps) (sym is_p)) in
    let rest_vs : drop i vs ≡ v ∷ drop (i + 1) vs = rw add-one (drop-cons vs i v inside_vs ∙ ap (λ (w : Parts). w ∷ drop (suc i) vs) (sym is_v)) in
    first_written (policy_rows p v) (all_policy_rows (drop (i + 1) ps) (drop (i + 1) vs)) text text' whole e (rw (rest_ps, rest_vs) at h)
