-- Actors that go on with batches: what always holds of them, how far their moves lead, and that they can always go on.
use Rattle.std.proofs.Common.{◌≡◌, ℕ, suc, ◌+◌, ◌-◌, ◌*◌, ◌/◌, ◌<◌, ◌≤◌, ◌≢◌, ◌⊎◌, Bool, true, false, List, [], ◌∷◌, length, set, Some, inl, inr, refl, sym, ap, subst, ◌∙◌, arith, get_or-set_same, get_or-set_other, slice_get, slice_index, slice_index_or, if◌then◌else◌, ◌==◌, nat_lt}
use Rattle.std.proofs.lemmas.Bool.{cases_Bool, cases_eq, true≢false, cond_both, eqb-true, eq-eqb, ne_eqb, lt-ltb, ltb-true, or_cases, or_left, or_right}
use Rattle.std.proofs.lemmas.List.{length-set, length-replicate, get_or-replicate, length_push}
use Rattle.std.proofs.lemmas.Option.{slice_get-get_or, get_or_from_slice_get, slice_get_within}
use Rattle.crn_cipher.specs.declared.TheConstants.{BLOCK_WORDS}
use Rattle.crn_proto.specs.declared.spec.RingSpec.{RingSpec}
use Rattle.crn_proto.specs.Ring.{left_mark, IsRing, Reader, ProducerMove, ReaderMove, Ring, Move, ByProducer, ByReader, LoadGate, StoreWord, Publish, Finish, LoadCursor, LoadWord, Take, Leave, LeadsTo, ProducerMay, ReaderMay, producer_word, producer_leaves, producer_after, reader_word, reader_leaves, reader_after, open_ring, open_reader, bit}
use Rattle.crn_proto.specs.Traces.{kind_of, reader_at}
use Rattle.crn_proto.specs.Progress.{Mark, has_finished, is_store}
use Rattle.crn_proto.specs.Lawful.{ReaderLaw, Lawful, parts_of}
use Rattle.crn_proto.specs.Batches.{Watch, open_watch, looks, lets_in, watch_after, GoingOn, GoesOnTo, mover, ring_mark, moves_by, stores_by}
use Rattle.crn_proto.proofs.Opening.{open_lawful}
use Rattle.crn_proto.proofs.Runs.{bit_small, step_lawful, ring_at, producer_law, reader_law, half_is}
use Rattle.crn_proto.proofs.Pace.{MarkStands, Onward, HasRoom}

-- what holds of a ring whose actors go on
pub record Fits (spec : RingSpec) (b : ℕ) (s : Ring) (w : Watch) : Type 0 where
  pub same : s.spec ≡ spec
  pub law : Lawful s.spec s.words (parts_of s)
  pub reader_count : length s.readers ≡ spec.readers
  pub stored_few : s.producer.stored ≤ BLOCK_WORDS * b
  pub passed_few : w.passed ≤ spec.readers
  pub passes : (r : ℕ) → r < w.passed → slice_index s.producer.gates r ≢ left_mark → s.producer.published < slice_index s.producer.gates r + spec.size
  pub read_few : (r : ℕ) → r < spec.readers → length (reader_at s r).read ≤ BLOCK_WORDS * b

-- ---- what is known of a state

module _ (spec : RingSpec) (b : ℕ) (s : Ring) (w : Watch) (fits : Fits spec b s w) where
  pub law_of : (r : ℕ) → r < spec.readers → ReaderLaw s.spec s.words r (reader_at s r)
  law_of r h = let n = fits.reader_count in reader_law s fits.law r (reader_at s r) (slice_get-get_or s.readers r (open_reader s.spec) (omega arith))

  pub marks_stand : MarkStands spec (ring_mark s)
  marks_stand =
      let first : s.spec.id.first ≡ spec.id.first = ap (λ x. x.id.first) fits.same in
      let total : s.spec.id.total ≡ spec.id.total = ap (λ x. x.id.total) fits.same in
      let producer = producer_law s fits.law in
      let half = half_is s fits.law in
      record {
        first_published = omega arith;
        in_total = omega arith;
        from_first = λ r h. let own = (law_of r h).from_first in omega arith;
        in_published = λ r h stays. let a = ((law_of r h).here stays).taken_seen in let c = ((law_of r h).here stays).seen_published in omega arith;
        at_end = λ r h seen. let odd = (law_of r h).at_end seen in elim (cases_Bool s.producer.ended) [
          | inl end ↦ end
          | inr going ↦ let none : bit s.producer.ended ≡ 0 = rw going refl in absurd (omega arith)
        ];
      }

  -- a reader that leaves room lets the next block in
  pub room_lets_in : (r : ℕ) → r < spec.readers → ((reader_at s r).left ≡ true) ⊎ (s.producer.published < (reader_at s r).taken + spec.size) → lets_in s (slice_index s.words (1 + r)) ≡ true
  room_lets_in r h room =
      let slots : s.spec.size ≡ spec.size = ap (λ x. x.size) fits.same in
      elim (cases_Bool (reader_at s r).left) [
        | inl left ↦ or_left _ _ (eq-eqb _ _ ((law_of r h).gone left))
        | inr stays ↦ elim room [
          | inl left ↦ absurd (true≢false (sym left ∙ stays))
          | inr near ↦ let cursor = ((law_of r h).here stays).cursor in
              let reaches : s.producer.published < slice_index s.words (1 + r) + s.spec.size = omega arith in
              or_right _ _ (lt-ltb _ _ reaches)
        ]
      ]

-- ---- one move

-- where moves of actors that go on lead to
pub record Comes (spec : RingSpec) (b : ℕ) (s t : Ring) (v : Watch) : Type 0 where
  pub fits : Fits spec b t v
  pub onward : Onward spec (ring_mark s) (ring_mark t)

pub onward_self : (spec : RingSpec) (x : Mark) → Onward spec x x
onward_self spec x = record { published = omega arith; ended = λ e. (e, refl); taken = λ r h. omega arith; left = λ r h e. e; seen_end = λ r h e. e }

pub onward_trans : (spec : RingSpec) (x y z : Mark) → Onward spec x y → Onward spec y z → Onward spec x z
onward_trans spec x y z first second = record {
  published = let a = first.published in let c = second.published in omega arith;
  ended = λ e. let (end, same) = first.ended e in let (still, again) = second.ended end in (still, again ∙ same);
  taken = λ r h. let a = first.taken r h in let c = second.taken r h in omega arith;
  left = λ r h e. second.left r h (first.left r h e);
  seen_end = λ r h e. second.seen_end r h (first.seen_end r h e);
}

-- the ring after a move of the producer
abbrev pub after_producer : Ring → ProducerMove → Ring
after_producer s m =
    let i = producer_word s.spec s.producer m in
    let found = slice_index s.words i in
    record s { words = set s.words i (producer_leaves s.spec s.producer m found); producer = producer_after s.producer m found }

-- the ring after a move of reader r, whose part was q
abbrev pub after_reader : Ring → ℕ → Reader → ReaderMove → Ring
after_reader s r q m =
    let i = reader_word s.spec r q m in
    let found = slice_index s.words i in
    record s { words = set s.words i (reader_leaves q m found); readers = set s.readers r (reader_after q m found) }

module _ (spec : RingSpec) (ring : IsRing spec) (b : ℕ) (s : Ring) (w : Watch) (fits : Fits spec b s w) where
  here : IsRing s.spec
  here = ring_at spec ring s.spec fits.same

  producer_comes : (m : ProducerMove) → ProducerMay s.spec s.producer m → (v : Watch) → let p = (after_producer s m).producer in
      p.stored ≤ BLOCK_WORDS * b → v.passed ≤ spec.readers → ((k : ℕ) → k < v.passed → slice_index p.gates k ≢ left_mark → p.published < slice_index p.gates k + spec.size)
      → s.producer.published ≤ p.published → (s.producer.ended ≡ true → (p.ended ≡ true) × (p.published ≡ s.producer.published)) → Comes spec b s (after_producer s m) v
  producer_comes m may v few passed passes rises stays = record {
    fits = record {
      same = fits.same;
      law = (step_lawful s (after_producer s m) (ByProducer m) here fits.law (may, refl)).1;
      reader_count = fits.reader_count;
      stored_few = few;
      passed_few = passed;
      passes = passes;
      read_few = fits.read_few;
    };
    onward = record { published = rises; ended = stays; taken = λ r h. omega arith; left = λ r h e. e; seen_end = λ r h e. e };
  }

  pub producer_leads : (m : ProducerMove) → ProducerMay s.spec s.producer m → GoingOn b s w (ByProducer m) → Comes spec b s (after_producer s m) (watch_after s w (ByProducer m))
  producer_leads (LoadGate r) may going =
      let count = slice_index s.words (1 + r) in
      let readers : s.spec.readers ≡ spec.readers = ap (λ x. x.readers) fits.same in
      let slots : s.spec.size ≡ spec.size = ap (λ x. x.size) fits.same in
      let known : r < length s.producer.gates = let n = (producer_law s fits.law).gate_count in let l = may.1 in omega arith in
      let same_gate = get_or-set_same s.producer.gates r count 0 known in
      producer_comes (LoadGate r) may _ fits.stored_few (cond_both (lets_in s count) (w.passed + 1) 0 (λ n. n ≤ spec.readers) (λ e. omega arith) (λ e. omega arith))
      (cond_both (lets_in s count) (w.passed + 1) 0
      (λ n. (k : ℕ) → k < n → slice_index (set s.producer.gates r count) k ≢ left_mark → s.producer.published < slice_index (set s.producer.gates r count) k + spec.size)
      (λ lets k h ne. elim (cases_eq k r) [
        | inl e ↦
            let is : slice_index (set s.producer.gates r count) k ≡ count = rw e same_gate in
            elim (or_cases (count == left_mark) (nat_lt s.producer.published (count + s.spec.size)) lets) [
              | inl left ↦ absurd (ne (is ∙ eqb-true _ _ left))
              | inr room ↦ let near = ltb-true _ _ room in omega arith
            ]
        | inr other ↦
            let is = get_or-set_other s.producer.gates r k count 0 other in
            let old = fits.passes k (omega arith) (λ e. ne (is ∙ e)) in
            omega arith
      ])
      (λ full k h ne. absurd (omega arith))) (omega arith) (λ e. (e, refl))
  producer_leads StoreWord may going = let few = going.0 in producer_comes StoreWord may _ (omega arith) fits.passed_few fits.passes (omega arith) (λ e. (e, refl))
  producer_leads (Publish c) may going =
      producer_comes (Publish c) may _ (omega arith) (omega arith) (λ r h ne. absurd (omega arith)) (omega arith) (λ e. absurd (true≢false (sym e ∙ may.0)))
  producer_leads Finish may going = producer_comes Finish may _ fits.stored_few fits.passed_few fits.passes (omega arith) (λ e. (refl, refl))

  module _ (r : ℕ) (q : Reader) (at : slice_get s.readers r ≡ Some q) where
    is_at : reader_at s r ≡ q
    is_at = get_or_from_slice_get s.readers r q (open_reader s.spec) at

    -- what holds of each part of a reader holds still if it holds of the new one
    each_part : (P : Reader → Reader → Type 0) (q' : Reader) → P q q' → ((k : ℕ) → k < spec.readers → P (reader_at s k) (reader_at s k))
        → (k : ℕ) → k < spec.readers → P (reader_at s k) (slice_index_or (set s.readers r q') k (open_reader s.spec))
    each_part P q' mine others k h = elim (cases_eq k r) [
      | inl e ↦ rw (e, is_at, get_or-set_same s.readers r q' (open_reader s.spec) (slice_get_within s.readers r q at)) mine
      | inr ne ↦ rw (get_or-set_other s.readers r k q' (open_reader s.spec) ne) (others k h)
    ]

    -- the part of reader r after a move
    abbrev moved : ReaderMove → Reader
    moved m = reader_after q m (slice_index s.words (reader_word s.spec r q m))

    reader_onward : (m : ReaderMove) → q.taken ≤ (moved m).taken → (q.left ≡ true → (moved m).left ≡ true) → (q.seen_end ≡ true → (moved m).seen_end ≡ true)
        → Onward spec (ring_mark s) (ring_mark (after_reader s r q m))
    reader_onward m took left seen = record {
      published = omega arith;
      ended = λ e. (e, refl);
      taken = each_part (λ a c. a.taken ≤ c.taken) (moved m) took (λ k h. omega arith);
      left = each_part (λ a c. a.left ≡ true → c.left ≡ true) (moved m) left (λ k h e. e);
      seen_end = each_part (λ a c. a.seen_end ≡ true → c.seen_end ≡ true) (moved m) seen (λ k h e. e);
    }

    reader_fits : (v : Watch) (m : ReaderMove) → ReaderMay q m → v.passed ≡ w.passed → length (moved m).read ≤ BLOCK_WORDS * b
        → Fits spec b (after_reader s r q m) v
    reader_fits v m may same_pass few = record {
      same = fits.same;
      law = (step_lawful s (after_reader s r q m) (ByReader r m) here fits.law (q, at, may, refl)).1;
      reader_count = length-set s.readers r _ ∙ fits.reader_count;
      stored_few = fits.stored_few;
      passed_few = rw same_pass fits.passed_few;
      passes = rw same_pass fits.passes;
      read_few = each_part (λ a c. length c.read ≤ BLOCK_WORDS * b) (moved m) few fits.read_few;
    }

    pub reader_leads : (m : ReaderMove) → ReaderMay q m → GoingOn b s w (ByReader r m) → Comes spec b s (after_reader s r q m) (watch_after s w (ByReader r m))
    reader_leads LoadCursor may going = record {
      fits = reader_fits (looks w r true) LoadCursor may refl (let none = may.2 in omega arith);
      onward = reader_onward LoadCursor (omega arith) (λ e. e) (λ e. absurd (true≢false (sym e ∙ may.1)));
    }
    reader_leads LoadWord may going = record {
      fits = reader_fits w LoadWord may refl (let l : length q.read < BLOCK_WORDS * b = rw is_at at going in let n = length_push q.read (slice_index s.words (reader_word s.spec r q LoadWord)) in omega arith);
      onward = reader_onward LoadWord (omega arith) (λ e. e) (λ e. e);
    }
    reader_leads (Take c) may going = record {
      fits = reader_fits (looks w r false) (Take c) may refl (omega arith);
      onward = reader_onward (Take c) (omega arith) (λ e. e) (λ e. e);
    }
    reader_leads Leave may going = record {
      fits = reader_fits w Leave may refl (let none = may.1 in omega arith);
      onward = reader_onward Leave (omega arith) (λ e. refl) (λ e. e);
    }

  pub step_leads : (move : Move) (t : Ring) → LeadsTo s move t → GoingOn b s w move → Comes spec b s t (watch_after s w move)
  step_leads (ByProducer m) t (may, is) going = rw is (producer_leads m may going)
  step_leads (ByReader r m) t (q, at, may, is) going = rw is (reader_leads r q at m may going)

-- ---- moves one after another

pub comes : (spec : RingSpec) → IsRing spec → (b : ℕ) (moves : List Move) (s t : Ring) (w v : Watch) → Fits spec b s w → GoesOnTo b s w moves t v → Comes spec b s t v
comes spec ring b [] s t w v fits (is, kept) = rw (is, kept) (record { fits = fits; onward = onward_self spec (ring_mark s) })
comes spec ring b (move ∷ moves) s t w v fits (mid, step, going, more) =
    let one = step_leads spec ring b s w fits move mid step going in
    let rest = comes spec ring b moves mid t (watch_after s w move) v one.fits more in
    record { fits = rest.fits; onward = onward_trans spec (ring_mark s) (ring_mark mid) (ring_mark t) one.onward rest.onward }

pub open_fits : (spec : RingSpec) → IsRing spec → (b : ℕ) → Fits spec b (open_ring spec) open_watch
open_fits spec ring b = record {
  same = refl;
  law = open_lawful spec ring;
  reader_count = length-replicate spec.readers (open_reader spec);
  stored_few = omega arith;
  passed_few = omega arith;
  passes = λ r h ne. absurd (omega arith);
  read_few = λ r h. rw (get_or-replicate spec.readers r (open_reader spec) (open_reader spec) h) (omega arith);
}

-- ---- the producer goes on

-- a reader's move does not touch what the producer has passed
pub watch_by_reader : (s : Ring) (w : Watch) (r : ℕ) (m : ReaderMove) → record w { looked = (watch_after s w (ByReader r m)).looked } ≡ watch_after s w (ByReader r m)
watch_by_reader s w r LoadCursor = refl
watch_by_reader s w r m = refl

-- whether a move is counted
pub uncounted : (a : ℕ) (move : Move) (moves : List Move) → mover move ≢ a → moves_by a (move ∷ moves) ≡ moves_by a moves
uncounted a move moves ne = rw (ne_eqb (mover move) a ne) (omega arith)

counted : (a : ℕ) (move : Move) (moves : List Move) → mover move ≡ a → moves_by a (move ∷ moves) ≡ suc (moves_by a moves)
counted a move moves e = rw (eq-eqb (mover move) a e) (omega arith)

room_on : (spec : RingSpec) (x y : Mark) → Onward spec x y → y.published ≡ x.published → HasRoom spec x → HasRoom spec y
room_on spec x y onward same room r h = elim (room r h) [ inl left ↦ inl (onward.left r h left) | inr near ↦ let up = onward.taken r h in inr (omega arith) ]

-- what follows on a move, from the very state that the move leads to
after_first : (b : ℕ) (s t : Ring) (w v : Watch) (m : ProducerMove) (moves : List Move) → GoesOnTo b s w (ByProducer m ∷ moves) t v
    → ProducerMay s.spec s.producer m × GoingOn b s w (ByProducer m) × GoesOnTo b (after_producer s m) (watch_after s w (ByProducer m)) moves t v
after_first b s t w v m moves (mid, (may, is), on, run) = (may, on, subst (λ x. GoesOnTo b x (watch_after s w (ByProducer m)) moves t v) is run)

-- what the producer's next moves do, where there is room
pub record ProducerDoes (spec : RingSpec) (b : ℕ) (s t : Ring) (w : Watch) (moves : List Move) : Type 0 where
  pub stores : (s.producer.stored ≡ 0 → spec.readers - w.passed + 1 ≤ moves_by 0 moves) → 0 < moves_by 0 moves → 0 < stores_by 0 moves
  pub publishes : s.producer.published < spec.id.total → (s.producer.stored ≡ 0 → spec.readers - w.passed + BLOCK_WORDS * b + 1 ≤ moves_by 0 moves)
      → (0 < s.producer.stored → BLOCK_WORDS * b - s.producer.stored + 1 ≤ moves_by 0 moves)
      → (t.producer.ended ≡ true) ⊎ (s.producer.published < t.producer.published)

module _ (spec : RingSpec) (ring : IsRing spec) (b : ℕ) where
  pub producer_does : (moves : List Move) (s t : Ring) (w v : Watch) → Fits spec b s w → GoesOnTo b s w moves t v → s.producer.ended ≡ false → HasRoom spec (ring_mark s)
      → ProducerDoes spec b s t w moves
  producer_does [] s t w v fits run going room = record {
    stores = λ empty some. absurd (omega arith);
    publishes = λ more empty some. elim (cases_eq s.producer.stored 0) [ inl e ↦ let n = empty e in absurd (omega arith) | inr ne ↦ let n = some (omega arith) in absurd (omega arith) ];
  }
  producer_does (ByProducer (LoadGate r) ∷ moves) s t w v fits goes going room =
      let (may, on, run) = after_first b s t w v (LoadGate r) moves goes in
      let one = producer_leads spec ring b s w fits (LoadGate r) may on in
      let readers : s.spec.readers ≡ spec.readers = ap (λ x. x.readers) fits.same in
      let known : r < spec.readers = let below = may.1 in omega arith in
      let lets = room_lets_in spec b s w fits r known (room r known) in
      let passed : (watch_after s w (ByProducer (LoadGate r))).passed ≡ w.passed + 1 = rw lets refl in
      let none = on.0 in
      let below : w.passed < spec.readers = omega arith in
      let does = producer_does moves _ t (watch_after s w (ByProducer (LoadGate r))) v one.fits run going (room_on spec (ring_mark s) _ one.onward refl room) in
      record {
        stores = λ empty some. let n = empty none in let more = does.stores (λ e. omega arith) (omega arith) in omega arith;
        publishes = λ more empty some. let n = empty none in does.publishes more (λ e. omega arith) (λ h. absurd (omega arith));
      }
  producer_does (ByProducer StoreWord ∷ moves) s t w v fits goes going room =
      let (may, on, run) = after_first b s t w v StoreWord moves goes in
      let one = producer_leads spec ring b s w fits StoreWord may on in
      let does = producer_does moves _ t (watch_after s w (ByProducer StoreWord)) v one.fits run going (room_on spec (ring_mark s) _ one.onward refl room) in
      record {
        stores = λ empty some. omega arith;
        publishes = λ more empty some.
            let n : BLOCK_WORDS * b - s.producer.stored + 1 ≤ 1 + moves_by 0 moves = elim (cases_eq s.producer.stored 0) [ inl e ↦ let l = empty e in omega arith | inr ne ↦ some (omega arith) ] in
            does.publishes more (λ e. absurd (omega arith)) (λ h. omega arith);
      }
  producer_does (ByProducer (Publish c) ∷ moves) s t w v fits goes going room =
      let (may, on, run) = after_first b s t w v (Publish c) moves goes in
      let rises = (comes spec ring b moves _ t _ v (producer_leads spec ring b s w fits (Publish c) may on).fits run).onward.published in
      record { stores = λ empty some. omega arith; publishes = λ more empty some. inr (omega arith) }
  producer_does (ByProducer Finish ∷ moves) s t w v fits goes going room =
      let (may, on, run) = after_first b s t w v Finish moves goes in
      let after = comes spec ring b moves _ t _ v (producer_leads spec ring b s w fits Finish may on).fits run in
      record { stores = λ empty some. omega arith; publishes = λ more empty some. inl (after.onward.ended refl).0 }
  producer_does (ByReader r m ∷ moves) s t w v fits (mid, step, on, run) going room =
      let one = step_leads spec ring b s w fits (ByReader r m) mid step on in
      let (q, at, may, is) = step in
      let same : mid.producer ≡ s.producer = rw is refl in
      let published : mid.producer.published ≡ s.producer.published = ap (λ p. p.published) same in
      let stored : mid.producer.stored ≡ s.producer.stored = ap (λ p. p.stored) same in
      let passed : w.passed ≡ (watch_after s w (ByReader r m)).passed = ap (λ v. v.passed) (watch_by_reader s w r m) in
      let count = uncounted 0 (ByReader r m) moves (λ e. omega arith) in
      let does = producer_does moves mid t (watch_after s w (ByReader r m)) v one.fits run (ap (λ p. p.ended) same ∙ going) (room_on spec (ring_mark s) (ring_mark mid) one.onward published room) in
      record {
        stores = λ empty some. let more = does.stores (λ e. let n = empty (sym stored ∙ e) in omega arith) (omega arith) in omega arith;
        publishes = λ more empty some. elim (does.publishes (omega arith) (λ e. let n = empty (sym stored ∙ e) in omega arith) (λ h. let n = some (omega arith) in omega arith)) [
          | inl end ↦ inl end
          | inr up ↦ inr (omega arith)
        ];
      }

  -- At the total its next move ends the stream.
  pub producer_ends : (moves : List Move) (s t : Ring) (w v : Watch) → Fits spec b s w → GoesOnTo b s w moves t v → s.producer.ended ≡ false → s.producer.published ≡ spec.id.total
      → 0 < moves_by 0 moves → t.producer.ended ≡ true
  producer_ends [] s t w v fits run going full turns = absurd (omega arith)
  producer_ends (ByProducer m ∷ moves) s t w v fits (mid, step, on, run) going full turns =
      let total : s.spec.id.total ≡ spec.id.total = ap (λ x. x.id.total) fits.same in
      let (may, is) = step in
      let one = step_leads spec ring b s w fits (ByProducer m) mid step on in
      ends_now m may on total (λ e. let ended : mid.producer.ended ≡ true = rw (is, e) refl in ((comes spec ring b moves mid t (watch_after s w (ByProducer m)) v one.fits run).onward.ended ended).0)
    where
      ends_now : (m : ProducerMove) → ProducerMay s.spec s.producer m → GoingOn b s w (ByProducer m) → s.spec.id.total ≡ spec.id.total → (m ≡ Finish → t.producer.ended ≡ true) → t.producer.ended ≡ true
      ends_now (LoadGate r) may on total after = let more = on.1 in absurd (omega arith)
      ends_now StoreWord may on total after = let more = may.1 in absurd (omega arith)
      ends_now (Publish c) may on total after = let whole = may.1 in let some = may.2 in let more = (producer_law s fits.law).stored_in_total 0 (omega arith) in absurd (omega arith)
      ends_now Finish may on total after = after refl
  producer_ends (ByReader r m ∷ moves) s t w v fits (mid, step, on, run) going full turns =
      let one = step_leads spec ring b s w fits (ByReader r m) mid step on in
      let (q, at, may, is) = step in
      let same : mid.producer ≡ s.producer = rw is refl in
      let count = uncounted 0 (ByReader r m) moves (λ e. omega arith) in
      producer_ends moves mid t (watch_after s w (ByReader r m)) v one.fits run (ap (λ p. p.ended) same ∙ going) (ap (λ p. p.published) same ∙ full) (omega arith)

-- ---- a reader goes on

-- another's move does not touch what is known of reader r
pub looked_by_others : (s : Ring) (w : Watch) (move : Move) (r : ℕ) → mover move ≢ suc r → (watch_after s w move).looked r ≡ w.looked r
looked_by_others s w (ByReader k LoadCursor) r ne = rw (ne_eqb r k (λ e. ne (ap suc (sym e)))) refl
looked_by_others s w (ByReader k (Take c)) r ne = rw (ne_eqb r k (λ e. ne (ap suc (sym e)))) refl
looked_by_others s w (ByProducer StoreWord) r ne = refl
looked_by_others s w move r ne = refl

pub part_by_others : (s mid : Ring) (move : Move) (r : ℕ) → mover move ≢ suc r → LeadsTo s move mid → reader_at mid r ≡ reader_at s r
part_by_others s mid (ByProducer m) r ne (may, is) = rw is refl
part_by_others s mid (ByReader k m) r ne (q, at, may, is) =
    rw is (get_or-set_other s.readers k r (reader_after q m (slice_index s.words (reader_word s.spec k q m))) (open_reader s.spec) (λ e. ne (ap suc (sym e))))

-- a move of reader r is one of its kinds
own_is : (P : Move → Type 0) (r : ℕ) (move : Move) → mover move ≡ suc r → ((m : ReaderMove) → P (ByReader r m)) → P move
own_is P r (ByProducer m) e each = absurd (omega arith)
own_is P r (ByReader k m) e each = let is : r ≡ k = omega arith in subst (λ x. P (ByReader x m)) is (each m)

-- n moves are enough for reader r, whose part is q, to take
abbrev pub Enough : ℕ → Reader → Bool → ℕ → Type 0
Enough b q looked n = (BLOCK_WORDS * b + 2 ≤ n) ⊎ (((0 < length q.read) ⊎ ((looked ≡ true) × (q.taken < q.seen))) × (BLOCK_WORDS * b - length q.read + 1 ≤ n))

module _ (spec : RingSpec) (ring : IsRing spec) (b : ℕ) (s : Ring) (w : Watch) (fits : Fits spec b s w) (r : ℕ) (mid : Ring) where
  abbrev before : Reader
  before = reader_at s r

  abbrev now : Reader
  now = reader_at mid r

  pub part_now : (m : ReaderMove) → LeadsTo s (ByReader r m) mid → (ReaderMay before m) × (now ≡ reader_after before m (slice_index s.words (reader_word s.spec r before m)))
  part_now m (q, at, may, is) =
      let e : before ≡ q = get_or_from_slice_get s.readers r q (open_reader s.spec) at in
      rw (is, e) (may, get_or-set_same s.readers r (reader_after q m (slice_index s.words (reader_word s.spec r q m))) (open_reader s.spec) (slice_get_within s.readers r q at))

  -- With a block to take, a move of the reader takes, or leaves, or fewer moves are enough.
  abbrev OwnMove : ℕ → Move → Type 0
  OwnMove n move =
      LeadsTo s move mid → GoingOn b s w move → before.left ≡ false → before.seen_end ≡ false → before.taken < s.producer.published → Enough b before (w.looked r) (suc n)
      → ((is_store (kind_of move) ≡ true) × ((now.left ≡ true) ⊎ (before.taken < now.taken)))
      ⊎ ((now.left ≡ false) × (now.seen_end ≡ false) × (now.taken ≡ before.taken) × Enough b now ((watch_after s w move).looked r) n)

  pub own_move : (n : ℕ) (m : ReaderMove) → OwnMove n (ByReader r m)
  own_move n LoadCursor step on stays going below enough =
      let (may, is) = part_now LoadCursor step in
      let none = may.2 in
      let cursor = (producer_law s fits.law).cursor in
      let half = half_is s fits.law in
      let small = bit_small s.producer.ended in
      let word = slice_index s.words 0 in
      let no_end : (word == 2 * before.taken + 1) ≡ false = ne_eqb _ _ (λ e. omega arith) in
      let more : before.taken < word / 2 = omega arith in
      let looked : (if r == r then true else w.looked r) ≡ true = rw (eq-eqb r r refl) refl in
      let left : BLOCK_WORDS * b - 0 + 1 ≤ n = elim enough [
        | inl many ↦ omega arith
        | inr (some, few) ↦ elim some [
          | inl read ↦ absurd (omega arith)
          | inr (has, seen) ↦ elim on [ inl fresh ↦ absurd (true≢false (sym has ∙ fresh)) | inr stale ↦ absurd (omega arith) ]
        ]
      ] in
      inr (rw is (stays, no_end, refl, inr (inr (looked, more), rw none left)))
  own_move n LoadWord step on stays going below enough =
      let (may, is) = part_now LoadWord step in
      let few : length before.read < BLOCK_WORDS * b = on in
      let longer = length_push before.read (slice_index s.words (reader_word s.spec r before LoadWord)) in
      let left : BLOCK_WORDS * b - (length before.read + 1) + 1 ≤ n = elim enough [ inl many ↦ omega arith | inr (some, less) ↦ omega arith ] in
      inr (rw is (stays, going, refl, inr (inl (omega arith), omega arith)))
  own_move n (Take c) step on stays going below enough = let (may, is) = part_now (Take c) step in let some = may.2 in inl (refl, inr (rw is (omega arith)))
  own_move n Leave step on stays going below enough = let (may, is) = part_now Leave step in inl (refl, inl (rw is refl))

  -- With the end marked and all blocks taken, a move of the reader shows it the end, or it leaves.
  abbrev OwnEnd : Move → Type 0
  OwnEnd move = LeadsTo s move mid → before.left ≡ false → s.producer.ended ≡ true → before.taken ≡ s.producer.published → (now.left ≡ true) ⊎ (now.seen_end ≡ true)

  pub own_end : r < spec.readers → (m : ReaderMove) → OwnEnd (ByReader r m)
  own_end known LoadCursor step stays end whole =
      let (may, is) = part_now LoadCursor step in
      let cursor = (producer_law s fits.law).cursor in
      let one : bit s.producer.ended ≡ 1 = rw end refl in
      inr (rw is (eq-eqb _ _ (omega arith)))
  own_end known LoadWord step stays end whole =
      let (may, is) = part_now LoadWord step in
      let seen = ((law_of spec b s w fits r known).here stays).seen_published in
      let half = half_is s fits.law in
      absurd (omega arith)
  own_end known (Take c) step stays end whole =
      let (may, is) = part_now (Take c) step in
      let here = (law_of spec b s w fits r known).here stays in
      let half = half_is s fits.law in
      absurd (omega arith)
  own_end known Leave step stays end whole = let (may, is) = part_now Leave step in inl (rw is refl)

module _ (spec : RingSpec) (ring : IsRing spec) (b r : ℕ) (known : r < spec.readers) where
  -- With a block to take, the reader takes in so many moves, or leaves.
  pub reader_takes : (moves : List Move) (s t : Ring) (w v : Watch) → Fits spec b s w → GoesOnTo b s w moves t v → (reader_at s r).left ≡ false → (reader_at s r).seen_end ≡ false
      → (reader_at s r).taken < s.producer.published → Enough b (reader_at s r) (w.looked r) (moves_by (suc r) moves)
      → (0 < stores_by (suc r) moves) × (((reader_at t r).left ≡ true) ⊎ ((reader_at s r).taken < (reader_at t r).taken))
  reader_takes [] s t w v fits run stays going below enough = absurd (elim enough [ inl many ↦ omega arith | inr (some, few) ↦ omega arith ])
  reader_takes (move ∷ moves) s t w v fits (mid, step, on, run) stays going below enough =
      let one = step_leads spec ring b s w fits move mid step on in
      elim (cases_eq (mover move) (suc r)) [
        | inr ne ↦
            let part = part_by_others s mid move r ne step in
            let looked = looked_by_others s w move r ne in
            let same : (reader_at mid r).taken ≡ (reader_at s r).taken = ap (λ q. q.taken) part in
            let left : Enough b (reader_at s r) (w.looked r) (moves_by (suc r) moves) = subst (λ n. Enough b (reader_at s r) (w.looked r) n) (uncounted (suc r) move moves ne) enough in
            let (does, up) = reader_takes moves mid t (watch_after s w move) v one.fits run (rw part stays) (rw part going) (omega arith) (rw (part, looked) left) in
            (omega arith, elim up [ inl left ↦ inl left | inr took ↦ inr (omega arith) ])
        | inl mine ↦
            let after = comes spec ring b moves mid t (watch_after s w move) v one.fits run in
            let left = subst (λ n. Enough b (reader_at s r) (w.looked r) n) (counted (suc r) move moves mine) enough in
            let n = moves_by (suc r) moves in
            elim (own_is (OwnMove spec ring b s w fits r mid n) r move mine (own_move spec ring b s w fits r mid n) step on stays going below left) [
              | inl (does, up) ↦
                  let c : stores_by (suc r) (move ∷ moves) ≡ 1 + stores_by (suc r) moves = rw (eq-eqb (mover move) (suc r) mine, does) refl in
                  (omega arith, elim up [ inl left ↦ inl (after.onward.left r known left) | inr took ↦ let more = after.onward.taken r known in inr (omega arith) ])
              | inr (remains, no_end, same, fewer) ↦
                  let (does, up) = reader_takes moves mid t (watch_after s w move) v one.fits run remains no_end (omega arith) fewer in
                  (omega arith, elim up [ inl left ↦ inl left | inr took ↦ inr (omega arith) ])
            ]
      ]

  -- With the end marked and all blocks taken, its next move shows the reader the end, or it leaves.
  pub reader_sees_end : (moves : List Move) (s t : Ring) (w v : Watch) → Fits spec b s w → GoesOnTo b s w moves t v → (reader_at s r).left ≡ false
      → s.producer.ended ≡ true → (reader_at s r).taken ≡ s.producer.published → 0 < moves_by (suc r) moves → has_finished (ring_mark t) (suc r) ≡ true
  reader_sees_end [] s t w v fits run stays end whole turns = absurd (omega arith)
  reader_sees_end (move ∷ moves) s t w v fits (mid, step, on, run) stays end whole turns =
      let one = step_leads spec ring b s w fits move mid step on in
      elim (cases_eq (mover move) (suc r)) [
        | inr ne ↦
            let part = part_by_others s mid move r ne step in
            let (still, same) = one.onward.ended end in
            let count = uncounted (suc r) move moves ne in
            reader_sees_end moves mid t (watch_after s w move) v one.fits run (rw part stays) still (ap (λ q. q.taken) part ∙ whole ∙ sym same) (omega arith)
        | inl mine ↦
            let after = comes spec ring b moves mid t (watch_after s w move) v one.fits run in
            elim (own_is (OwnEnd spec ring b s w fits r mid) r move mine (own_end spec ring b s w fits r mid known) step stays end whole) [
              | inl left ↦ or_left _ _ (after.onward.left r known left)
              | inr seen ↦ or_right _ _ (after.onward.seen_end r known seen)
            ]
      ]
