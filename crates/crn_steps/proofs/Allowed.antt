-- A move that an actor's part allows may be made by the seat that has it.
use Rattle.std.proofs.Common.{◌≡◌, ℕ, suc, zero, ◌+◌, ◌-◌, ◌≤◌, ◌≢◌, List, [], ◌∷◌, set, Some, inl, inr, refl, sym, ap, ◌∙◌, subst, arith, slice_get, slice_index}
use lib.ListN.{get_elem?}
use mathlib.Core.Option.{some, none}
use Rattle.atomic_table.specs.Table.{State, Allows, step, stepped, keeps}
use Rattle.crn_proto.specs.declared.spec.RingSpec.{RingSpec}
use Rattle.crn_proto.specs.Ring.{left_mark, IsRing, ProducerMove, LoadGate, StoreWord, Finish, ReaderMove, LoadCursor, LoadWord, Leave, ProducerMay, ReaderMay, producer_word, producer_leaves, reader_word, reader_leaves}
use Rattle.crn_proto.specs.declared.actor_parts.Part.{Part}
use Rattle.crn_proto.specs.declared.actor_parts.Part.TheVariants.{OfProducer, OfReader}
use Rattle.crn_proto.specs.Lawful.{WordsLaw, ProducerLaw, ReaderLaw, PartLaw}
use Rattle.crn_proto.specs.Views.{waiting_parts}
use Rattle.crn_proto.proofs.ProducerMoves.{published_is}
use Rattle.crn_proto.proofs.ReaderMoves.{word_found}
use Rattle.crn_proto.proofs.Parts.{Moved, producer_keeps, reader_keeps, moved_by_producer, moved_by_reader}
use Rattle.crn_proto.proofs.Views.{view_part, rule_moved}
use Rattle.crn_steps.specs.declared.view.View.{View}
use Rattle.crn_steps.specs.Holds.{parts_as, parts_of_view, Holds, HasProducer, HasReader}
use Rattle.crn_steps.specs.Plays.{Sat, by_producer, by_reader, publishing, taking, ProducerGoesOn, ReaderGoesOn, MadeByProducer, MadeByReader, loaded_gate, stored_word, published_some, stored_end, loaded_cursor, loaded_word, stored_taken, stored_left}

pub got : {A : Type 0} (xs : List A) (k : ℕ) (x : A) → get_elem? xs k ≡ some x → slice_get xs k ≡ Some x
got [] k x h = cc
got (y ∷ ys) zero x h = let e : y ≡ x = cc in ap (λ z. Some z) e
got (y ∷ ys) (suc k) x h = got ys k x h

pub spec_stays : (spec : RingSpec) (views : List View) (id : ℕ) (w : View) → w.spec ≡ spec → ((k : ℕ) (v : View) → get_elem? views k ≡ some v → v.spec ≡ spec)
    → (k : ℕ) (v : View) → get_elem? (set views id w) k ≡ some v → v.spec ≡ spec
spec_stays spec [] id w e all k v h = cc
spec_stays spec (x ∷ xs) zero w e all zero v h = let same : w ≡ v = cc in sym (ap (λ u. u.spec) same) ∙ e
spec_stays spec (x ∷ xs) zero w e all (suc k) v h = all (suc k) v h
spec_stays spec (x ∷ xs) (suc id) w e all zero v h = all 0 v h
spec_stays spec (x ∷ xs) (suc id) w e all (suc k) v h = spec_stays spec xs id w e (λ j. all (suc j)) k v h

-- the one part of a producer's view, and of a reader's
pub producer_alone : (v : View) → HasProducer v → parts_of_view v ≡ OfProducer v.producer ∷ []
producer_alone v is =
    let nobody : v.spec.readers - v.number ≡ 0 = (let e = is.1 in omega arith) in
    ap (parts_as v) is.0 ∙ ap (waiting_parts v.producer v.reader v.number) nobody

pub reader_alone : (v : View) → HasReader v → parts_of_view v ≡ OfReader v.number v.reader ∷ []
reader_alone v is = ap (parts_as v) is

-- the law of the one part of a view
pub own_law : (spec : RingSpec) (s : State (Unit {0}) View) (id : ℕ) (v : View) (part : Part) → Holds spec s → get_elem? s.views id ≡ some v → parts_of_view v ≡ part ∷ [] → PartLaw spec s.words part
own_law spec s id v part law at is =
    let (k, here, sets) = view_part parts_of_view s.views id v part (got s.views id v at) is in
    law.rule.lawful.of_parts k part here

-- the rule after a move of a view's one part
moved : (spec : RingSpec) (s : State (Unit {0}) View) (id i x : ℕ) (v w : View) (before after : Part) (carried : List (ℕ × Unit {0})) → Holds spec s → get_elem? s.views id ≡ some v
    → parts_of_view v ≡ before ∷ [] → parts_of_view w ≡ after ∷ [] → w.spec ≡ v.spec → Moved spec s.words (set s.words i x) before after → Holds spec (stepped s i x id carried w keeps)
moved spec s id i x v w before after carried law at is is' same move = record {
  ring = law.ring;
  rule = rule_moved parts_of_view spec s.words (set s.words i x) s.views id v w before after law.rule (got s.views id v at) is is' move;
  same_ring = spec_stays spec s.views id w (same ∙ law.same_ring id v at) law.same_ring;
}

module _ (spec : RingSpec) (slots id : ℕ) (me : Sat) where
  -- What a step may tell its seat is whatever the laws of the words and of its own part give.
  pub producer_allows : HasProducer me.0 → (m : ProducerMove) → ProducerMay spec me.0.producer m → (told : ℕ → Sat → Type 0)
      → ((words : List ℕ) → IsRing spec → WordsLaw spec words → ProducerLaw spec words me.0.producer
      → told (slice_index words (producer_word spec me.0.producer m)) (by_producer m (slice_index words (producer_word spec me.0.producer m)) me.0, me.1))
      → Allows (Holds spec) slots id me (producer_word spec me.0.producer m) (producer_leaves spec me.0.producer m) told
  producer_allows is m may told tells s law homes at low =
      let p = me.0.producer in
      let found = slice_index s.words (producer_word spec p m) in
      let w = by_producer m found me.0 in
      let own = own_law spec s id me.0 (OfProducer p) law at (producer_alone me.0 is) in
      let words_law = law.rule.lawful.of_words in (
        w,
        keeps,
        tt,
        moved spec s id _ _ me.0 w (OfProducer p) (OfProducer w.producer) me.1 law at (producer_alone me.0 is) (producer_alone w is) refl
            (moved_by_producer p (producer_keeps spec law.ring s.words p m words_law own may)),
        tells s.words law.ring words_law own,
      )

  pub reader_allows : HasReader me.0 → (m : ReaderMove) → ReaderMay me.0.reader m → (told : ℕ → Sat → Type 0)
      → ((words : List ℕ) → IsRing spec → WordsLaw spec words → ReaderLaw spec words me.0.number me.0.reader
      → told (slice_index words (reader_word spec me.0.number me.0.reader m)) (by_reader m (slice_index words (reader_word spec me.0.number me.0.reader m)) me.0, me.1))
      → Allows (Holds spec) slots id me (reader_word spec me.0.number me.0.reader m) (reader_leaves me.0.reader m) told
  reader_allows is m may told tells s law homes at low =
      let q = me.0.reader in
      let r = me.0.number in
      let found = slice_index s.words (reader_word spec r q m) in
      let w = by_reader m found me.0 in
      let own = own_law spec s id me.0 (OfReader r q) law at (reader_alone me.0 is) in
      let words_law = law.rule.lawful.of_words in (
        w,
        keeps,
        tt,
        moved spec s id _ _ me.0 w (OfReader r q) (OfReader r w.reader) me.1 law at (reader_alone me.0 is) (reader_alone w is) refl
            (moved_by_reader q (reader_keeps spec law.ring s.words r q m words_law own may)),
        tells s.words law.ring words_law own,
      )

  -- ---- each kind of step

  module _ (same : me.0.spec ≡ spec) (is : HasProducer me.0) where
    -- a step in the move's word that leaves what the move leaves
    producer_made : (move : ProducerMove) (k x n : ℕ) → k ≡ producer_word spec me.0.producer move → n ≡ producer_leaves spec me.0.producer move n → ProducerMay spec me.0.producer move → ProducerGoesOn spec me.0.producer me.0.passed move
        → MadeByProducer move (step slots k x 0 none) me n (by_producer move n me.0, me.1)
    producer_made move k x n here leaves may on = record {
      seat = is;
      may = rw same may;
      goes_on = rw same on;
      word = rw same here;
      leaves = rw same leaves;
      view = refl;
    }

    -- a store, whose move heeds nothing that it finds
    producer_stores : (move : ProducerMove) (k x : ℕ) → k ≡ producer_word spec me.0.producer move → ((found : ℕ) → x ≡ producer_leaves spec me.0.producer move found)
        → ((found : ℕ) → by_producer move x me.0 ≡ by_producer move found me.0) → ProducerMay spec me.0.producer move → ProducerGoesOn spec me.0.producer me.0.passed move → Allows (Holds spec) slots id me k (λ _. x) (λ _. MadeByProducer move (step slots k x 0 none) me x)
    producer_stores move k x here value heeds may on =
        let told : ℕ → Sat → Type 0 = λ _. MadeByProducer move (step slots k x 0 none) me x in
        subst (λ (z : ℕ × (ℕ → ℕ)). Allows (Holds spec) slots id me z.0 z.1 told) (λ i. (sym here i, λ found. sym (value found) i))
        (producer_allows is move may told (λ words ring laws own.
        subst (λ (v : View). told x (v, me.1)) (heeds (slice_index words (producer_word spec me.0.producer move))) (producer_made move k x x here (value x) may on)))

    pub loads_gate : (r k : ℕ) → k ≡ 1 + r → ProducerMay spec me.0.producer (LoadGate r) → ProducerGoesOn spec me.0.producer me.0.passed (LoadGate r) → Allows (Holds spec) slots id me k (λ n. n) (loaded_gate (step slots k 0 0 none) me)
    loads_gate r k here may on = subst (λ (z : ℕ). Allows (Holds spec) slots id me z (λ n. n) (loaded_gate (step slots z 0 0 none) me)) (sym here)
        (producer_allows is (LoadGate r) may (loaded_gate (step slots (1 + r) 0 0 none) me) tells)
      where
        -- the value that is found is the mark, or a count that the producer has not left behind
        bound : (words : List ℕ) → IsRing spec → WordsLaw spec words → ProducerLaw spec words me.0.producer → slice_index words (1 + r) ≢ left_mark
            → (slice_index words (1 + r) ≤ me.0.producer.published) × (me.0.producer.published ≤ slice_index words (1 + r) + spec.size)
        bound words ring laws own ne = let now = published_is spec ring words me.0.producer laws own may.0 in elim (laws.cursors r may.1) [
          | inl e ↦ absurd (ne e)
          | inr both ↦ let low = both.0 in let high = both.1 in (omega arith, omega arith)
        ]

        tells : (words : List ℕ) → IsRing spec → WordsLaw spec words → ProducerLaw spec words me.0.producer
            → loaded_gate (step slots (1 + r) 0 0 none) me (slice_index words (1 + r)) (by_producer (LoadGate r) (slice_index words (1 + r)) me.0, me.1)
        tells words ring laws own = let found = slice_index words (1 + r) in let back : r ≡ (1 + r) - 1 = omega arith in (
          subst (λ (z : ℕ). MadeByProducer (LoadGate z) (step slots (1 + r) 0 0 none) me found (by_producer (LoadGate r) found me.0, me.1)) back (producer_made (LoadGate r) (1 + r) 0 found refl refl may on),
          own.gate_count ∙ ap (λ (z : RingSpec). z.readers) (sym same),
          λ ne. rw same (bound words ring laws own ne),
        )

    pub stores_word : (k x : ℕ) → k ≡ producer_word spec me.0.producer StoreWord → x ≡ producer_leaves spec me.0.producer StoreWord 0 → ProducerMay spec me.0.producer StoreWord → ProducerGoesOn spec me.0.producer me.0.passed StoreWord
        → Allows (Holds spec) slots id me k (λ _. x) (λ _. stored_word (step slots k x 0 none) me x)
    stores_word k x here value = producer_stores StoreWord k x here (λ found. value) (λ found. refl)

    pub publishes : (x : ℕ) → x ≡ producer_leaves spec me.0.producer (publishing me.0) 0 → ProducerMay spec me.0.producer (publishing me.0)
        → Allows (Holds spec) slots id me 0 (λ _. x) (λ _. published_some (step slots 0 x 0 none) me x)
    publishes x value may = producer_stores (publishing me.0) 0 x refl (λ found. value) (λ found. refl) may tt

    pub stores_end : (x : ℕ) → x ≡ producer_leaves spec me.0.producer Finish 0 → ProducerMay spec me.0.producer Finish
        → Allows (Holds spec) slots id me 0 (λ _. x) (λ _. stored_end (step slots 0 x 0 none) me x)
    stores_end x value may = producer_stores Finish 0 x refl (λ found. value) (λ found. refl) may tt

  module _ (same : me.0.spec ≡ spec) (is : HasReader me.0) where
    reader_made : (move : ReaderMove) (k x n : ℕ) → k ≡ reader_word spec me.0.number me.0.reader move → n ≡ reader_leaves me.0.reader move n → ReaderMay me.0.reader move → ReaderGoesOn me.0.reader me.0.looked move
        → MadeByReader move (step slots k x 0 none) me n (by_reader move n me.0, me.1)
    reader_made move k x n here leaves may on = record {
      seat = is;
      may = may;
      goes_on = on;
      word = rw same here;
      leaves = leaves;
      view = refl;
    }

    reader_stores : (move : ReaderMove) (k x : ℕ) → k ≡ reader_word spec me.0.number me.0.reader move → ((found : ℕ) → x ≡ reader_leaves me.0.reader move found)
        → ((found : ℕ) → by_reader move x me.0 ≡ by_reader move found me.0) → ReaderMay me.0.reader move → ReaderGoesOn me.0.reader me.0.looked move → Allows (Holds spec) slots id me k (λ _. x) (λ _. MadeByReader move (step slots k x 0 none) me x)
    reader_stores move k x here value heeds may on =
        let told : ℕ → Sat → Type 0 = λ _. MadeByReader move (step slots k x 0 none) me x in
        subst (λ (z : ℕ × (ℕ → ℕ)). Allows (Holds spec) slots id me z.0 z.1 told) (λ i. (sym here i, λ found. sym (value found) i))
        (reader_allows is move may told (λ words ring laws own.
        subst (λ (v : View). told x (v, me.1)) (heeds (slice_index words (reader_word spec me.0.number me.0.reader move))) (reader_made move k x x here (value x) may on)))

    pub loads_cursor : ReaderMay me.0.reader LoadCursor → ReaderGoesOn me.0.reader me.0.looked LoadCursor → Allows (Holds spec) slots id me 0 (λ n. n) (loaded_cursor (step slots 0 0 0 none) me)
    loads_cursor may on = reader_allows is LoadCursor may (loaded_cursor (step slots 0 0 0 none) me)
        (λ words ring laws own. let here = own.here may.0 in let order = here.taken_seen in let seen = here.seen_published in
        (reader_made LoadCursor 0 0 (slice_index words 0) refl refl may on, omega arith, seen, rw same laws.in_total))

    pub loads_word : (k : ℕ) → k ≡ reader_word spec me.0.number me.0.reader LoadWord → ReaderMay me.0.reader LoadWord → Allows (Holds spec) slots id me k (λ n. n) (loaded_word (step slots k 0 0 none) me)
    loads_word k here may = let here_word = reader_word spec me.0.number me.0.reader LoadWord in
        subst (λ (z : ℕ). Allows (Holds spec) slots id me z (λ n. n) (loaded_word (step slots z 0 0 none) me)) (sym here)
        (reader_allows is LoadWord may (loaded_word (step slots here_word 0 0 none) me)
        (λ words ring laws own. (reader_made LoadWord here_word 0 (slice_index words here_word) refl refl may tt, rw same (word_found spec ring words me.0.number me.0.reader laws own may))))

    pub stores_taken : (k x : ℕ) → k ≡ 1 + me.0.number → x ≡ reader_leaves me.0.reader (taking me.0) 0 → ReaderMay me.0.reader (taking me.0)
        → Allows (Holds spec) slots id me k (λ _. x) (λ _. stored_taken (step slots k x 0 none) me x)
    stores_taken k x here value may = reader_stores (taking me.0) k x here (λ found. value) (λ found. refl) may tt

    pub stores_left : (k : ℕ) → k ≡ 1 + me.0.number → ReaderMay me.0.reader Leave
        → Allows (Holds spec) slots id me k (λ _. left_mark) (λ _. stored_left (step slots k left_mark 0 none) me left_mark)
    stores_left k here may = reader_stores Leave k left_mark here (λ found. refl) (λ found. refl) may tt
