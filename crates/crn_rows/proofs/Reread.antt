-- What `csv` reads of a text of plain rows are these rows.
use Rattle.std.proofs.Common.{◌≡◌, ℕ, ◌<◌, nat_le, nat_lt, true, false, Option, Some, None, List, [], ◌∷◌, ◌++◌, map, refl, ap, sym, subst, ◌∙◌, arith}
use Rattle.std.proofs.lemmas.Bool.{and_parts}
use Rattle.std.proofs.lemmas.Bool.Decides.{nat_tests}
use Rattle.csv.specs.Machine.{next_record, Read}
use Rattle.csv.specs.Reading.{default_config, strip_bom, AreRecords, Reached}
use Rattle.csv.specs.Writing.{read_back}
use Rattle.csv.specs.declared.parser.State.TheVariants as st
use Rattle.csv.specs.declared.parser.State.{State}
use Rattle.csv.proofs.RoundTrip as csv_proofs
use Rattle.csv.proofs.RoundTrip.{read-write}
use Rattle.crn_rows.specs.Plain.{is_plain_byte, is_plain, are_plain, is_row, are_rows}
use Rattle.crn_rows.specs.Rows.{row_text, rows_text}
use Rattle.crn_rows.proofs.Plainness.{row_written, row_parts}

none_some : {X : Type 0} (r : Option X) (a : X) → r ≡ None → r ≡ Some a → ⊥
none_some r a h k = cc

same_of : {X : Type 0} (r : Option X) (a b : X) → r ≡ Some a → r ≡ Some b → a ≡ b
same_of r a b h k = cc

-- nothing is read of no bytes
nothing : next_record default_config st.StartRecord [] [] [] ≡ None
unfolding next_record
nothing = refl

reached : (rows rs : List (List (List ℕ))) (s : State) (ys : List ℕ) → Reached default_config st.StartRecord (csv_proofs.rows_text rows) rs s ys → next_record default_config s [] [] ys ≡ None → rs ≡ map read_back rows
unfolding Reached csv_proofs.rows_text
reached [] [] s ys h none = refl
reached [] (r ∷ rs) s ys h none = absurd (none_some _ _ nothing h.1)
reached (row ∷ rows) [] s ys h none =
    let found = read-write row (csv_proofs.rows_text rows) in
    absurd (none_some _ _ (rw (← h.0, ← h.1) at none) found)
reached (row ∷ rows) (r ∷ rs) s ys h none =
    let same = same_of _ _ _ h.1 (read-write row (csv_proofs.rows_text rows)) in
    let first : r ≡ read_back row = h.2 ∙ ap (λ (q : Read). q.0) same in
    let more = subst (λ (q : Read). Reached default_config q.1 q.2 rs s ys) same h.3 in
    rw (first, reached rows rs s ys more none)

-- the text is what `csv` writes of the rows
written : (rows : List (List (List ℕ))) → are_rows rows ≡ true → csv_proofs.rows_text rows ≡ rows_text rows
unfolding csv_proofs.rows_text
written [] h = refl
written (r ∷ rows) h =
    let (here, more) = and_parts (is_row r) (are_rows rows) h in
    rw (row_written false r here, written rows more)

-- none of the rows is empty
same_fields : (rows : List (List (List ℕ))) → are_rows rows ≡ true → map read_back rows ≡ rows
same_fields [] h = refl
same_fields ([] ∷ rows) h = cc
same_fields ((f ∷ fs) ∷ rows) h =
    let (here, more) = and_parts (is_row (f ∷ fs)) (are_rows rows) h in
    rw (same_fields rows more)

-- the text begins with no byte order mark
unmarked : (b : ℕ) (bytes : List ℕ) → b < 128 → strip_bom (b ∷ bytes) ≡ b ∷ bytes
unfolding strip_bom
unmarked b [] h = refl
unmarked b (c ∷ []) h = refl
unmarked b (c ∷ d ∷ rest) h = grind (arith, nat_tests, h)

first_unmarked : (f : List ℕ) (g : List ℕ) (fs : List (List ℕ)) (rest : List ℕ) → is_plain f ≡ true → strip_bom (row_text (f ∷ g ∷ fs) ++ rest) ≡ row_text (f ∷ g ∷ fs) ++ rest
unfolding row_text
first_unmarked [] g fs rest h = unmarked 44 _ (omega arith)
first_unmarked (b ∷ bs) g fs rest h =
    let (here, more) = and_parts (is_plain_byte b) (is_plain bs) h in
    let (low, high) = and_parts (nat_le 45 b) (nat_lt b 128) here in
    unmarked b _ (grind (arith, nat_tests, high))

row_unmarked : (r : List (List ℕ)) (rest : List ℕ) → is_row r ≡ true → strip_bom (row_text r ++ rest) ≡ row_text r ++ rest
row_unmarked [] rest h = cc
row_unmarked (f ∷ []) rest h = cc
row_unmarked (f ∷ g ∷ fs) rest h =
    let (_, plain) = row_parts (f ∷ g ∷ fs) h in
    let (here, more) = and_parts (is_plain f) (are_plain (g ∷ fs)) plain in
    first_unmarked f g fs rest here

no_bom : (rows : List (List (List ℕ))) → are_rows rows ≡ true → strip_bom (rows_text rows) ≡ rows_text rows
unfolding strip_bom
no_bom [] h = refl
no_bom (r ∷ rows) h =
    let (here, more) = and_parts (is_row r) (are_rows rows) h in
    row_unmarked r (rows_text rows) here

pub reread : (text : List ℕ) (rs rows : List (List (List ℕ))) → are_rows rows ≡ true → text ≡ rows_text rows → AreRecords default_config st.StartRecord (strip_bom text) rs → rs ≡ rows
reread text rs rows h e records =
    let same : strip_bom text ≡ csv_proofs.rows_text rows = rw e (no_bom rows h ∙ sym (written rows h)) in
    let found = rw same at records in
    reached rows rs found.0 found.1 found.2 found.3 ∙ same_fields rows h
