-- Each move of a reader keeps the law of the words, its own, the producer's and every other reader's.
use Rattle.std.proofs.Common.{◌≡◌, ℕ, ◌+◌, ◌*◌, ◌/◌, ◌%◌, ◌≤◌, ◌≢◌, ◌⊎◌, false, List, [], ◌∷◌, ◌++◌, length, get_or, inl, inr, refl, sym, ap, ◌∙◌, arith, add-one}
use Rattle.crn_cipher.specs.declared.TheConstants.{BLOCK_WORDS}
use Rattle.std.proofs.lemmas.Bool.{cases_eq, true≢false, eqb-true}
use Rattle.std.proofs.lemmas.List.{length_push}
use Rattle.crn_proto.specs.declared.spec.RingSpec.{RingSpec}
use Rattle.crn_cipher.specs.Blocks.{block_word}
use Rattle.crn_proto.specs.Stream.{first_words}
use Rattle.crn_proto.specs.Ring.{left_mark, place, IsRing, Producer, Reader, LoadCursor, LoadWord, Take, Leave, ReaderMay, reader_word, reader_after, reading}
use Rattle.crn_proto.specs.Lawful.{WordsLaw, ProducerLaw, ReaderLaw}
use Rattle.crn_proto.proofs.Places.{place_above}
use Rattle.crn_proto.proofs.ProducerMoves.{Changes, reader_kept, no_mark}

-- the laws after a move of reader r
pub record ReaderKeeps (spec : RingSpec) (words new : List ℕ) (r : ℕ) (after : Reader) : Type 0 where
  pub of_words : WordsLaw spec new
  pub of_part : ReaderLaw spec new r after
  pub of_producer : (p : Producer) → ProducerLaw spec words p → ProducerLaw spec new p
  pub of_others : (s : ℕ) (q : Reader) → s ≢ r → ReaderLaw spec words s q → ReaderLaw spec new s q

pub no_words : (key : List ℕ) (n : ℕ) → [] ≡ first_words key n 0
unfolding first_words
no_words key n = refl

module _ (spec : RingSpec) (ring : IsRing spec) (words : List ℕ) (r : ℕ) (q : Reader) (laws : WordsLaw spec words) (own : ReaderLaw spec words r q) where
  -- loads change no word
  pub load_cursor_keeps : ReaderMay q LoadCursor → ReaderKeeps spec words words r (reader_after q LoadCursor (get_or words 0 0))
  load_cursor_keeps may = record {
    of_words = laws;
    of_part = record {
      known = own.known;
      from_first = own.from_first;
      gone = own.gone;
      here = λ e. let here = own.here e in let low = here.taken_seen in let high = here.seen_published in let none = may.2 in record {
        cursor = here.cursor;
        taken_seen = omega arith;
        seen_published = omega arith;
        whole = here.whole;
        read_seen = omega arith;
        read_words = here.read_words;
      };
      at_end = λ e. eqb-true (get_or words 0 0) (2 * q.taken + 1) e;
    };
    of_producer = λ p law. law;
    of_others = λ s other ne law. law;
  }

  -- what a read of a slot finds
  pub word_found : ReaderMay q LoadWord → get_or words (reader_word spec r q LoadWord) 0 ≡ block_word spec.id.key (reading q) (length q.read % BLOCK_WORDS)
  word_found may =
      let here = own.here may.0 in
      here.whole (reading q) (length q.read % BLOCK_WORDS) (omega arith) (omega arith) (omega arith)

  longer : ReaderMay q LoadWord → (found : ℕ) → get_or words (reader_word spec r q LoadWord) 0 ≡ found
      → q.read ++ found ∷ [] ≡ first_words spec.id.key q.taken (length (q.read ++ found ∷ []))
  unfolding first_words
  longer may found is =
      let here = own.here may.0 in
      rw (length_push q.read found, add-one) (ap (λ xs. xs ++ found ∷ []) here.read_words ∙ ap (λ x. first_words spec.id.key q.taken (length q.read) ++ x ∷ []) (sym is ∙ word_found may))

  pub load_word_keeps : ReaderMay q LoadWord → (found : ℕ) → get_or words (reader_word spec r q LoadWord) 0 ≡ found
      → ReaderKeeps spec words words r (reader_after q LoadWord found)
  load_word_keeps may found is = record {
    of_words = laws;
    of_part = record {
      known = own.known;
      from_first = own.from_first;
      gone = own.gone;
      here = λ e. let here = own.here e in record {
        cursor = here.cursor;
        taken_seen = here.taken_seen;
        seen_published = here.seen_published;
        whole = here.whole;
        read_seen = let more = may.1 in rw (length_push q.read found) (omega arith);
        read_words = longer may found is;
      };
      at_end = own.at_end;
    };
    of_producer = λ p law. law;
    of_others = λ s other ne law. law;
  }

  -- A store of the reader's own cursor: a higher count, or the mark of one that left.
  module _ (new : List ℕ) (v : ℕ) (ch : Changes words new (1 + r) v) (is_here : q.left ≡ false) (higher : q.taken ≤ v) where
    first_same : get_or new 0 0 ≡ get_or words 0 0
    first_same = ch.others 0 (λ e. omega arith)

    slots_same : (n i : ℕ) → get_or new (place spec n i) 0 ≡ get_or words (place spec n i) 0
    slots_same n i = ch.others (place spec n i) (place_above spec r n i own.known)

    cursor_producer : (p : Producer) → ProducerLaw spec words p → ProducerLaw spec new p
    cursor_producer p law = record {
      cursor = first_same ∙ law.cursor;
      from_first = law.from_first;
      in_total = law.in_total;
      gate_count = law.gate_count;
      gates_low = λ s h. elim (cases_eq s r) [
        | inl e ↦
            let low = law.gates_low s h in
            let here = own.here is_here in
            let count = here.cursor in
            let t = ch.there in
            let is : get_or words (1 + s) 0 ≡ q.taken = rw e count in
            let now : get_or new (1 + s) 0 ≡ v = rw e t in
            omega arith
        | inr ne ↦ rw (ch.others (1 + s) (λ e. ne (omega arith))) (law.gates_low s h)
      ];
      stored_in_total = law.stored_in_total;
      stored_passed = law.stored_passed;
      stored_stand = λ j s l h ne. slots_same (p.published + j / BLOCK_WORDS) (j % BLOCK_WORDS) ∙ law.stored_stand j r l own.known (no_mark spec ring words r q laws (own.here is_here));
      none_stored = law.none_stored;
      as_opened = λ e none i l. ch.others i (λ z. let h = own.known in omega arith) ∙ law.as_opened e none i l;
    }

    cursor_others : (s : ℕ) (other : Reader) → s ≢ r → ReaderLaw spec words s other → ReaderLaw spec new s other
    cursor_others s other ne law =
        reader_kept spec words new s other law (ch.others (1 + s) (λ e. ne (omega arith))) (let same = first_same in omega arith)
        (λ here n i low high l. slots_same n i ∙ here.whole n i low (rw first_same at high) l) (λ e. first_same ∙ law.at_end e)

    cursor_words : (v ≡ left_mark) ⊎ (v ≤ get_or words 0 0 / 2) → WordsLaw spec new
    cursor_words fits = record {
      sized = ch.same_size ∙ laws.sized;
      in_total = rw first_same laws.in_total;
      cursors = λ s h. elim (cases_eq s r) [
        | inl e ↦
            let now : get_or new (1 + s) 0 ≡ v = rw e ch.there in
            elim fits [
              | inl mark ↦ inl (now ∙ mark)
              | inr low ↦
                  let here = own.here is_here in
                  elim (laws.cursors r own.known) [
                    | inl gone ↦ absurd (no_mark spec ring words r q laws here gone)
                    | inr both ↦ let room = both.1 in inr (omega arith, omega arith)
                  ]
            ]
        | inr ne ↦ rw (first_same, ch.others (1 + s) (λ e. ne (omega arith))) (laws.cursors s h)
      ];
    }

  module _ (new : List ℕ) where
    pub take_keeps : (c : ℕ) → ReaderMay q (Take c) → Changes words new (1 + r) (q.taken + c) → ReaderKeeps spec words new r (reader_after q (Take c) 0)
    take_keeps c may ch =
        let was = own.here may.0 in
        let higher : q.taken ≤ q.taken + c = omega arith in
        let same = first_same new (q.taken + c) ch may.0 higher in
        record {
          of_words = cursor_words new (q.taken + c) ch may.0 higher (inr (omega arith));
          of_part = record {
            known = own.known;
            from_first = let first = own.from_first in omega arith;
            gone = λ e. absurd (true≢false (sym e ∙ may.0));
            here = λ e. record {
              cursor = ch.there;
              taken_seen = omega arith;
              seen_published = omega arith;
              whole = λ n i from below l. slots_same new (q.taken + c) ch may.0 higher n i ∙ was.whole n i (omega arith) (omega arith) l;
              read_seen = omega arith;
              read_words = no_words spec.id.key (q.taken + c);
            };
            -- a reader that saw the end had nothing to take
            at_end = λ e. let odd = own.at_end e in absurd (omega arith);
          };
          of_producer = cursor_producer new (q.taken + c) ch may.0 higher;
          of_others = cursor_others new (q.taken + c) ch may.0 higher;
        }

    pub leave_keeps : ReaderMay q Leave → Changes words new (1 + r) left_mark → ReaderKeeps spec words new r (reader_after q Leave 0)
    leave_keeps may ch =
        let was = own.here may.0 in
        let higher : q.taken ≤ left_mark = omega arith in
        record {
          of_words = cursor_words new left_mark ch may.0 higher (inl refl);
          of_part = record {
            known = own.known;
            from_first = own.from_first;
            gone = λ e. ch.there;
            here = λ e. absurd (true≢false e);
            at_end = λ e. first_same new left_mark ch may.0 higher ∙ own.at_end e;
          };
          of_producer = cursor_producer new left_mark ch may.0 higher;
          of_others = cursor_others new left_mark ch may.0 higher;
        }
