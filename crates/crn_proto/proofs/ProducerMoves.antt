-- Each move of the producer keeps the law of the words, its own and every reader's.
use Rattle.std.proofs.Common.{◌≡◌, ℕ, ◌+◌, ◌-◌, ◌*◌, ◌/◌, ◌%◌, ◌<◌, ◌≤◌, ◌≢◌, true, false, List, length, get_or, set, inl, inr, refl, sym, ◌∙◌, arith, get_or-set_same, get_or-set_other, length-set}
use Rattle.crn_cipher.specs.declared.TheConstants.{BLOCK_WORDS}
use Rattle.std.proofs.lemmas.Bool.{cases_lt, cases_eq, true≢false}
use Rattle.crn_proto.specs.declared.spec.RingSpec.{RingSpec}
use Rattle.crn_cipher.specs.Blocks.{block_word}
use Rattle.crn_proto.specs.Ring.{left_mark, place, bit, IsRing, Producer, Reader, LoadGate, StoreWord, Publish, Finish, ProducerMay, producer_word, producer_after, storing, PassesGates}
use Rattle.crn_proto.specs.Lawful.{WordsLaw, ProducerLaw, ReaderLaw, ReaderHere, WordStands}
use Rattle.crn_proto.proofs.Places.{place_above, place_not_first, same_place, places_apart}

-- new is words with v at i
pub record Changes (words new : List ℕ) (i v : ℕ) : Type 0 where
  pub same_size : length new ≡ length words
  pub there : get_or new i 0 ≡ v
  pub others : (k : ℕ) → k ≢ i → get_or new k 0 ≡ get_or words k 0

pub changes_set : (words : List ℕ) (i v : ℕ) → i < length words → Changes words (set words i v) i v
changes_set words i v h = record {
  same_size = length-set words i v;
  there = get_or-set_same words i v 0 h;
  others = λ k ne. get_or-set_other words i k v 0 ne;
}

-- the laws after a move of the producer
pub record ProducerKeeps (spec : RingSpec) (words new : List ℕ) (after : Producer) : Type 0 where
  pub of_words : WordsLaw spec new
  pub of_part : ProducerLaw spec new after
  pub of_readers : (r : ℕ) (q : Reader) → ReaderLaw spec words r q → ReaderLaw spec new r q

-- A reader keeps its law if its cursor is as it was, no fewer blocks are published, and each published block that it has
-- not taken stands whole.
pub reader_kept : (spec : RingSpec) (words new : List ℕ) (r : ℕ) (q : Reader) → ReaderLaw spec words r q → get_or new (1 + r) 0 ≡ get_or words (1 + r) 0 → get_or words 0 0 / 2 ≤ get_or new 0 0 / 2
    → (ReaderHere spec words r q → (n i : ℕ) → q.taken ≤ n → n < get_or new 0 0 / 2 → i < BLOCK_WORDS → get_or new (place spec n i) 0 ≡ block_word spec.id.key n i)
    → (q.seen_end ≡ true → get_or new 0 0 ≡ 2 * q.taken + 1) → ReaderLaw spec new r q
reader_kept spec words new r q law same no_fewer whole at_end = record {
  known = law.known;
  from_first = law.from_first;
  gone = λ e. same ∙ law.gone e;
  here = λ e. let here = law.here e in record {
    cursor = same ∙ here.cursor;
    taken_seen = here.taken_seen;
    seen_published = let s = here.seen_published in omega arith;
    whole = whole here;
    read_seen = here.read_seen;
    read_words = here.read_words;
  };
  at_end = at_end;
}

-- the cursor of a reader that has not left is a count
pub no_mark : (spec : RingSpec) → IsRing spec → (words : List ℕ) (r : ℕ) (q : Reader) → WordsLaw spec words → ReaderHere spec words r q → get_or words (1 + r) 0 ≢ left_mark
no_mark spec ring words r q laws here e = omega (arith, here.cursor, here.taken_seen, here.seen_published, laws.in_total, ring.total_below)

module _ (spec : RingSpec) (ring : IsRing spec) (words : List ℕ) (p : Producer) (laws : WordsLaw spec words) (own : ProducerLaw spec words p) where
  -- the gate of a reader that has not left is a count
  gate_counts : (r : ℕ) → r < spec.readers → get_or words (1 + r) 0 ≢ left_mark
      → (get_or p.gates r 0 ≢ left_mark) × (get_or p.gates r 0 ≤ get_or words (1 + r) 0) × (get_or words (1 + r) 0 ≤ get_or words 0 0 / 2)
  gate_counts r h ne =
      let low = own.gates_low r h in
      elim (laws.cursors r h) [
        | inl e ↦ absurd (ne e)
        | inr both ↦ (λ e. let high = both.0 in omega arith, low, both.0)
      ]

  pub published_is : p.ended ≡ false → get_or words 0 0 ≡ 2 * p.published
  published_is e = let c : get_or words 0 0 ≡ 2 * p.published + bit p.ended = own.cursor in rw e at c ∙ omega arith

  -- the last block that is published is within the room of each reader that has not left
  pub publish_near : (c : ℕ) → ProducerMay spec p (Publish c) → (r : ℕ) → r < spec.readers → get_or words (1 + r) 0 ≢ left_mark → p.published + c ≤ get_or words (1 + r) 0 + spec.size
  publish_near c may r h ne =
      let g = gate_counts r h ne in
      let near : p.published + (BLOCK_WORDS * c - 1) / BLOCK_WORDS < get_or p.gates r 0 + spec.size = own.stored_passed (BLOCK_WORDS * c - 1) (omega arith) r h g.0 in
      omega arith

  -- where a reader has not left, the block that is stored is less than `size` above its count
  pub store_near : ProducerMay spec p StoreWord → (r : ℕ) → r < spec.readers → get_or words (1 + r) 0 ≢ left_mark → storing p < get_or words (1 + r) 0 + spec.size
  store_near may r h ne =
      let g = gate_counts r h ne in
      omega (arith, may.2 r h g.0, g.1)

  module _ (new : List ℕ) where
    module _ (may : ProducerMay spec p StoreWord) (ch : Changes words new (producer_word spec p StoreWord) (block_word spec.id.key (storing p) (p.stored % BLOCK_WORDS))) where
      -- no cursor changes
      cursor_same : (r : ℕ) → r < spec.readers → get_or new (1 + r) 0 ≡ get_or words (1 + r) 0
      cursor_same r h = ch.others (1 + r) (λ e. place_above spec r (storing p) (p.stored % BLOCK_WORDS) h (sym e))

      first_same : get_or new 0 0 ≡ get_or words 0 0
      first_same = ch.others 0 (λ e. place_not_first spec (storing p) (p.stored % BLOCK_WORDS) (sym e))

      store_stands : (j r : ℕ) → j < p.stored + 1 → r < spec.readers → get_or new (1 + r) 0 ≢ left_mark → WordStands spec new p.published j
      store_stands j r l h ne =
          let was : get_or words (1 + r) 0 ≢ left_mark = λ e. ne (cursor_same r h ∙ e) in
          elim (cases_lt j p.stored) [
            | inl older ↦
                let near = store_near may r h was in
                let high = (gate_counts r h was).2 in
                let c = published_is may.0 in
                let apart : place spec (p.published + j / BLOCK_WORDS) (j % BLOCK_WORDS) ≢ place spec (storing p) (p.stored % BLOCK_WORDS) =
                elim (cases_lt (j / BLOCK_WORDS) (p.stored / BLOCK_WORDS)) [
                  | inl block ↦ places_apart spec (p.published + j / BLOCK_WORDS) (storing p) (j % BLOCK_WORDS) (p.stored % BLOCK_WORDS) (omega arith) (omega arith) (omega arith) (omega arith)
                  | inr same ↦ λ e. let k = (same_place spec (p.published + j / BLOCK_WORDS) (storing p) (j % BLOCK_WORDS) (p.stored % BLOCK_WORDS) (omega arith) (omega arith) e).1 in omega arith
                ]
                in
                ch.others (place spec (p.published + j / BLOCK_WORDS) (j % BLOCK_WORDS)) apart ∙ own.stored_stand j r older h was
            | inr last ↦ let e : p.stored ≡ j = omega arith in (rw e at ch.there)
          ]

      store_whole : (r : ℕ) (q : Reader) → r < spec.readers → ReaderHere spec words r q → (n i : ℕ) → q.taken ≤ n → n < get_or words 0 0 / 2 → i < BLOCK_WORDS
          → get_or new (place spec n i) 0 ≡ block_word spec.id.key n i
      store_whole r q h here n i low high l =
          let was = no_mark spec ring words r q laws here in
          let near = store_near may r h was in
          let c = published_is may.0 in
          ch.others (place spec n i) (places_apart spec n (storing p) i (p.stored % BLOCK_WORDS) (omega arith) (omega arith) l (omega arith)) ∙ here.whole n i low high l

      pub store_keeps : ProducerKeeps spec words new (producer_after p StoreWord 0)
      store_keeps = record {
        of_words = record {
          sized = ch.same_size ∙ laws.sized;
          in_total = rw first_same laws.in_total;
          cursors = λ r h. rw (first_same, cursor_same r h) (laws.cursors r h);
        };
        of_part = record {
          cursor = first_same ∙ own.cursor;
          from_first = own.from_first;
          in_total = own.in_total;
          gate_count = own.gate_count;
          gates_low = λ r h. rw (cursor_same r h) (own.gates_low r h);
          stored_in_total = λ j h. elim (cases_lt j p.stored) [ inl older ↦ own.stored_in_total j older | inr last ↦ let m = may.1 in omega arith ];
          stored_passed = λ j h r k ne. elim (cases_lt j p.stored) [
            | inl older ↦ own.stored_passed j older r k ne
            | inr last ↦ let m : storing p < get_or p.gates r 0 + spec.size = may.2 r k ne in omega arith
          ];
          stored_stand = store_stands;
          none_stored = λ e. absurd (true≢false (sym e ∙ may.0));
          as_opened = λ e none. absurd (omega arith);
        };
        of_readers = λ r q law. reader_kept spec words new r q law (cursor_same r law.known) (let f = first_same in omega arith)
            (λ here n i low high l. store_whole r q law.known here n i low (rw first_same at high) l) (λ e. first_same ∙ law.at_end e);
      }

    module _ (c : ℕ) (may : ProducerMay spec p (Publish c)) (ch : Changes words new 0 (2 * (p.published + c))) where
      front_moves : get_or new 0 0 / 2 ≡ p.published + c
      front_moves = let t = ch.there in omega arith

      publish_whole : (r : ℕ) (q : Reader) → r < spec.readers → ReaderHere spec words r q → (n i : ℕ) → q.taken ≤ n → n < p.published + c → i < BLOCK_WORDS
          → get_or new (place spec n i) 0 ≡ block_word spec.id.key n i
      publish_whole r q h here n i low high l =
          let was = no_mark spec ring words r q laws here in
          let f = published_is may.0 in
          ch.others (place spec n i) (place_not_first spec n i)
          ∙ elim (cases_lt n p.published) [
            | inl older ↦ here.whole n i low (omega arith) l
            | inr newer ↦
                let block : p.published + (BLOCK_WORDS * (n - p.published) + i) / BLOCK_WORDS ≡ n = omega arith in
                let word : (BLOCK_WORDS * (n - p.published) + i) % BLOCK_WORDS ≡ i = omega arith in
                let stands : WordStands spec words p.published (BLOCK_WORDS * (n - p.published) + i) = own.stored_stand (BLOCK_WORDS * (n - p.published) + i) r (omega arith) h was in
                (rw (block, word) at stands)
          ]

      pub publish_keeps : ProducerKeeps spec words new (producer_after p (Publish c) 0)
      publish_keeps = record {
        of_words = record {
          sized = ch.same_size ∙ laws.sized;
          in_total = let f = front_moves in let all = may.1 in let some = may.2 in
              let last : p.published + (BLOCK_WORDS * c - 1) / BLOCK_WORDS < spec.id.total = own.stored_in_total (BLOCK_WORDS * c - 1) (omega arith) in omega arith;
          cursors = λ r h. rw (front_moves, ch.others (1 + r) (λ e. omega arith))
              (elim (cases_eq (get_or words (1 + r) 0) left_mark) [
                | inl e ↦ inl e
                | inr ne ↦ let f = published_is may.0 in let g = gate_counts r h ne in let low = g.2 in inr (omega arith, publish_near c may r h ne)
              ]);
        };
        of_part = record {
          cursor = let t = ch.there in let e = may.0 in rw e (omega arith);
          from_first = let low = own.from_first in omega arith;
          in_total = let all = may.1 in let some = may.2 in
              let last : p.published + (BLOCK_WORDS * c - 1) / BLOCK_WORDS < spec.id.total = own.stored_in_total (BLOCK_WORDS * c - 1) (omega arith) in omega arith;
          gate_count = own.gate_count;
          gates_low = λ r h. rw (ch.others (1 + r) (λ e. omega arith)) (own.gates_low r h);
          stored_in_total = λ j h. absurd (omega arith);
          stored_passed = λ j h r k ne. absurd (omega arith);
          stored_stand = λ j r h k ne. absurd (omega arith);
          none_stored = λ e. refl;
          as_opened = λ e none. let low = own.from_first in let some = may.2 in absurd (omega arith);
        };
        of_readers = λ r q law. reader_kept spec words new r q law (ch.others (1 + r) (λ e. omega arith)) (let f = front_moves in let g = published_is may.0 in omega arith)
            (λ here n i low high l. publish_whole r q law.known here n i low (rw front_moves at high) l)
            -- a reader that saw the end saw an odd word, and the word is even
            (λ e. let odd = law.at_end e in let even = published_is may.0 in absurd (omega arith));
      }

    module _ (may : ProducerMay spec p Finish) (ch : Changes words new 0 (2 * p.published + 1)) where
      front_stays : get_or new 0 0 / 2 ≡ get_or words 0 0 / 2
      front_stays = let t = ch.there in let f = published_is may.0 in omega arith

      pub finish_keeps : ProducerKeeps spec words new (producer_after p Finish 0)
      finish_keeps = record {
        of_words = record {
          sized = ch.same_size ∙ laws.sized;
          in_total = rw front_stays laws.in_total;
          cursors = λ r h. rw (front_stays, ch.others (1 + r) (λ e. omega arith)) (laws.cursors r h);
        };
        of_part = record {
          cursor = ch.there;
          from_first = own.from_first;
          in_total = own.in_total;
          gate_count = own.gate_count;
          gates_low = λ r h. rw (ch.others (1 + r) (λ e. omega arith)) (own.gates_low r h);
          stored_in_total = own.stored_in_total;
          stored_passed = own.stored_passed;
          stored_stand = λ j r h k ne. let none = may.1 in absurd (omega arith);
          none_stored = λ e. may.1;
          as_opened = λ e none i l. ch.others i (λ z. omega arith) ∙ own.as_opened e none i l;
        };
        of_readers = λ r q law. reader_kept spec words new r q law (ch.others (1 + r) (λ e. omega arith)) (let f = front_stays in omega arith)
            (λ here n i low high l. ch.others (place spec n i) (place_not_first spec n i) ∙ here.whole n i low (rw front_stays at high) l)
            (λ e. let odd = law.at_end e in let even = published_is may.0 in absurd (omega arith));
      }

  -- a load changes no word
  module _ (g : ℕ) (may : ProducerMay spec p (LoadGate g)) where
    gate_low : (r : ℕ) → r < spec.readers → get_or (set p.gates g (get_or words (1 + g) 0)) r 0 ≤ get_or words (1 + r) 0
    gate_low r h = elim (cases_eq r g) [
      | inl e ↦ let k : g < length p.gates = omega arith in rw (e, get_or-set_same) (omega arith)
      | inr ne ↦ rw (get_or-set_other p.gates g r (get_or words (1 + g) 0) 0 ne) (own.gates_low r h)
    ]

    -- a newer gate lets in what the older one did
    gate_passes : (n : ℕ) → PassesGates spec p n → PassesGates spec (producer_after p (LoadGate g) (get_or words (1 + g) 0)) n
    gate_passes n passes r h ne = elim (cases_eq r g) [
      | inl e ↦
          let k : g < length p.gates = let m = own.gate_count in let l = may.1 in omega arith in
          let is : get_or (set p.gates g (get_or words (1 + g) 0)) r 0 ≡ get_or words (1 + r) 0 = rw (e, get_or-set_same) refl in
          let counts = gate_counts r h (λ left. ne (is ∙ left)) in
          let old : n < get_or p.gates r 0 + spec.size = passes r h counts.0 in
          omega arith
      | inr other ↦
          let is = get_or-set_other p.gates g r (get_or words (1 + g) 0) 0 other in
          let old : n < get_or p.gates r 0 + spec.size = passes r h (λ left. ne (is ∙ left)) in
          omega arith
    ]

    pub load_gate_keeps : ProducerKeeps spec words words (producer_after p (LoadGate g) (get_or words (1 + g) 0))
    load_gate_keeps = record {
      of_words = laws;
      of_part = record {
        cursor = own.cursor;
        from_first = own.from_first;
        in_total = own.in_total;
        gate_count = length-set p.gates g (get_or words (1 + g) 0) ∙ own.gate_count;
        gates_low = gate_low;
        stored_in_total = own.stored_in_total;
        stored_passed = λ j h. gate_passes (p.published + j / BLOCK_WORDS) (own.stored_passed j h);
        stored_stand = own.stored_stand;
        none_stored = own.none_stored;
        as_opened = own.as_opened;
      };
      of_readers = λ r q law. law;
    }
