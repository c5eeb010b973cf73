-- A move of one actor keeps the law of all parts that are known.
use Rattle.std.proofs.Common.{◌≡◌, ℕ, suc, zero, ◌+◌, ◌%◌, ◌≢◌, ◌⊎◌, List, [], ◌∷◌, set, Some, inl, inr, refl, sym, ap, ◌∙◌, arith, slice_get, slice_set, slice_index}
use Rattle.crn_cipher.specs.declared.TheConstants.{BLOCK_WORDS}
use Rattle.std.proofs.lemmas.List.{set-get_or}
use Rattle.crn_proto.specs.declared.spec.RingSpec.{RingSpec}
use Rattle.crn_proto.specs.Ring.{IsRing, Producer, Reader, ProducerMove, LoadGate, StoreWord, Publish, Finish, ProducerMay, producer_word, producer_leaves, producer_after, storing, ReaderMove, LoadCursor, LoadWord, Take, Leave, ReaderMay, reader_word, reader_leaves, reader_after}
use Rattle.crn_proto.specs.Lawful.{WordsLaw, ProducerLaw, ReaderLaw, Part, OfProducer, OfReader, PartLaw, Lawful, own_cursor, Apart}
use Rattle.crn_proto.proofs.Places.{place_within}
use Rattle.crn_proto.proofs.ProducerMoves.{ProducerKeeps, changes_set, store_keeps, publish_keeps, finish_keeps, load_gate_keeps}
use Rattle.crn_proto.proofs.ReaderMoves.{ReaderKeeps, load_cursor_keeps, load_word_keeps, take_keeps, leave_keeps}

-- the words after a move of the producer, and of a reader
abbrev pub words_by_producer : RingSpec → List ℕ → Producer → ProducerMove → List ℕ
words_by_producer spec words p m = slice_set words (producer_word spec p m) (producer_leaves spec p m (slice_index words (producer_word spec p m)))

abbrev pub words_by_reader : RingSpec → List ℕ → ℕ → Reader → ReaderMove → List ℕ
words_by_reader spec words r q m = slice_set words (reader_word spec r q m) (reader_leaves q m (slice_index words (reader_word spec r q m)))

pub producer_keeps : (spec : RingSpec) → IsRing spec → (words : List ℕ) (p : Producer) (m : ProducerMove) → WordsLaw spec words → ProducerLaw spec words p → ProducerMay spec p m
    → ProducerKeeps spec words (words_by_producer spec words p m) (producer_after p m (slice_index words (producer_word spec p m)))
producer_keeps spec ring words p (LoadGate r) laws own may = rw (set-get_or words (1 + r) 0) (load_gate_keeps spec ring words p laws own r may)
producer_keeps spec ring words p StoreWord laws own may =
    store_keeps spec ring words p laws own _ may (changes_set words _ _ (rw laws.sized (place_within spec (storing p) (p.stored % BLOCK_WORDS) ring.has_slots (omega arith))))
producer_keeps spec ring words p (Publish c) laws own may = publish_keeps spec ring words p laws own _ c may (changes_set words _ _ (rw laws.sized (omega arith)))
producer_keeps spec ring words p Finish laws own may = finish_keeps spec ring words p laws own _ may (changes_set words _ _ (rw laws.sized (omega arith)))

pub reader_keeps : (spec : RingSpec) → IsRing spec → (words : List ℕ) (r : ℕ) (q : Reader) (m : ReaderMove) → WordsLaw spec words → ReaderLaw spec words r q → ReaderMay q m
    → ReaderKeeps spec words (words_by_reader spec words r q m) r (reader_after q m (slice_index words (reader_word spec r q m)))
reader_keeps spec ring words r q LoadCursor laws own may = rw (set-get_or words 0 0) (load_cursor_keeps spec ring words r q laws own may)
reader_keeps spec ring words r q LoadWord laws own may =
    rw (set-get_or words (reader_word spec r q LoadWord) 0) (load_word_keeps spec ring words r q laws own may _ refl)
reader_keeps spec ring words r q (Take c) laws own may = let known = own.known in take_keeps spec ring words r q laws own _ c may (changes_set words _ _ (rw laws.sized (omega arith)))
reader_keeps spec ring words r q Leave laws own may = let known = own.known in leave_keeps spec ring words r q laws own _ may (changes_set words _ _ (rw laws.sized (omega arith)))

-- ---- one part among several

-- what a move of one actor does to the laws of all
pub record Moved (spec : RingSpec) (words new : List ℕ) (before after : Part) : Type 0 where
  pub of_words : WordsLaw spec new
  pub of_part : PartLaw spec new after
  pub of_others : (other : Part) → own_cursor other ≢ own_cursor before → PartLaw spec words other → PartLaw spec new other
  pub same_actor : own_cursor after ≡ own_cursor before

pub moved_by_producer : {spec : RingSpec} {words new : List ℕ} (p : Producer) {after : Producer} → ProducerKeeps spec words new after → Moved spec words new (OfProducer p) (OfProducer after)
moved_by_producer {spec} {words} {new} p keeps = record {
  of_words = keeps.of_words;
  of_part = keeps.of_part;
  of_others = others;
  same_actor = refl;
}
  where
    others : (other : Part) → own_cursor other ≢ 0 → PartLaw spec words other → PartLaw spec new other
    others (OfProducer other) ne law = absurd (ne refl)
    others (OfReader r q) ne law = keeps.of_readers r q law

pub moved_by_reader : {spec : RingSpec} {words new : List ℕ} {r : ℕ} (q : Reader) {after : Reader} → ReaderKeeps spec words new r after → Moved spec words new (OfReader r q) (OfReader r after)
moved_by_reader {spec} {words} {new} {r} q keeps = record {
  of_words = keeps.of_words;
  of_part = keeps.of_part;
  of_others = others;
  same_actor = refl;
}
  where
    others : (other : Part) → own_cursor other ≢ 1 + r → PartLaw spec words other → PartLaw spec new other
    others (OfProducer p) ne law = keeps.of_producer p law
    others (OfReader s other) ne law = keeps.of_others s other (λ e. ne (ap (λ x. 1 + x) e)) law

-- what stands in a list after a write
pub get_set_cases : {A : Type 0} (xs : List A) (i k : ℕ) (v x : A) → slice_get (set xs i v) k ≡ Some x → ((k ≡ i) × (x ≡ v)) ⊎ ((k ≢ i) × (slice_get xs k ≡ Some x))
get_set_cases [] i k v x h = cc
get_set_cases (y ∷ ys) zero zero v x h = inl (refl, cc)
get_set_cases (y ∷ ys) (suc i) (suc k) v x h = elim (get_set_cases ys i k v x h) [
  | inl same ↦ inl (ap suc same.0, same.1)
  | inr other ↦ inr ((λ e. other.0 (omega arith)), other.1)
]
get_set_cases (y ∷ ys) i k v x h = inr ((λ e. omega arith), h)

pub lawful_moved : {spec : RingSpec} {words new : List ℕ} {parts : List Part} {before after : Part} (k : ℕ)
    → Lawful spec words parts → Apart parts → slice_get parts k ≡ Some before → Moved spec words new before after
    → Lawful spec new (set parts k after) × Apart (set parts k after)
lawful_moved {spec} {words} {new} {parts} {before} {after} k law apart at moved = (
  record {
    of_words = moved.of_words;
    of_parts = λ j part h. elim (get_set_cases parts k j after part h) [
      | inl same ↦ rw same.1 moved.of_part
      | inr other ↦ moved.of_others part (λ e. other.0 (apart j k part before other.1 at e)) (law.of_parts j part other.1)
    ];
  },
  λ i j a b h l e. elim (get_set_cases parts k i after a h) [
    | inl first ↦ elim (get_set_cases parts k j after b l) [
      | inl second ↦ first.0 ∙ sym second.0
      | inr second ↦ absurd (second.0 (apart j k b before second.1 at (sym e ∙ ap own_cursor first.1 ∙ moved.same_actor)))
    ]
    | inr first ↦ elim (get_set_cases parts k j after b l) [
      | inl second ↦ absurd (first.0 (apart i k a before first.1 at (e ∙ ap own_cursor second.1 ∙ moved.same_actor)))
      | inr second ↦ apart i j a b first.1 second.1 e
    ]
  ],
)
