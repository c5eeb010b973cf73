-- An opened ring is lawful, and the parts of a ring's state are those of different actors.
use Rattle.std.proofs.Common.{◌≡◌, ℕ, suc, zero, ◌+◌, ◌*◌, ◌<◌, List, [], ◌∷◌, length, replicate, set, Some, inl, inr, refl, sym, ap, ◌∙◌, arith, one-add, slice_get, slice_index}
use Rattle.crn_cipher.specs.declared.TheConstants.{BLOCK_WORDS}
use Rattle.std.proofs.lemmas.Bool.{cases_lt, false≢true}
use Rattle.std.proofs.lemmas.List.{ext_get_or, length-append, length-replicate, get_or-replicate, get_or_append_left}
use Rattle.crn_proto.specs.declared.spec.RingSpec.{RingSpec}
use Rattle.crn_proto.specs.Ring.{IsRing, Reader, Ring, open_words, open_producer, open_reader, open_ring}
use Rattle.crn_proto.specs.Lawful.{WordsLaw, ProducerLaw, ReaderLaw, Part, OfProducer, OfReader, PartLaw, Lawful, own_cursor, Apart, reader_parts, parts_of}
use Rattle.crn_proto.proofs.ReaderMoves.{no_words}

-- ---- the list of parts

pub part_of_reader : (n : ℕ) (readers : List Reader) (k : ℕ) (q : Reader) → slice_get readers k ≡ Some q → slice_get (reader_parts n readers) k ≡ Some (OfReader (n + k) q)
part_of_reader n [] k q h = cc
part_of_reader n (x ∷ xs) zero q h = let e : n ≡ n + 0 = omega arith in cc
part_of_reader n (x ∷ xs) (suc k) q h = let e : suc n + k ≡ n + suc k = omega arith in rw e at (part_of_reader (suc n) xs k q h)

pub reader_of_part : (n : ℕ) (readers : List Reader) (k : ℕ) (part : Part) → slice_get (reader_parts n readers) k ≡ Some part → (q : Reader) × (slice_get readers k ≡ Some q) × (part ≡ OfReader (n + k) q)
reader_of_part n [] k part h = cc
reader_of_part n (x ∷ xs) zero part h = let e : n ≡ n + 0 = omega arith in (x, refl, cc)
reader_of_part n (x ∷ xs) (suc k) part h =
    let (q, at, is) = reader_of_part (suc n) xs k part h in
    let e : suc n + k ≡ n + suc k = omega arith in
    (q, at, rw e at is)

pub parts_after_set : (n : ℕ) (readers : List Reader) (k : ℕ) (q : Reader) → reader_parts n (set readers k q) ≡ set (reader_parts n readers) k (OfReader (n + k) q)
parts_after_set n [] k q = refl
parts_after_set n (x ∷ xs) zero q = let e : n ≡ n + 0 = omega arith in cc
parts_after_set n (x ∷ xs) (suc k) q = let e : suc n + k ≡ n + suc k = omega arith in ap (λ ps. OfReader n x ∷ ps) (rw e at (parts_after_set (suc n) xs k q))

own_place : (s : Ring) (k : ℕ) (part : Part) → slice_get (parts_of s) k ≡ Some part → own_cursor part ≡ k
own_place s zero part h = let e : OfProducer s.producer ≡ part = cc in sym (ap own_cursor e)
own_place s (suc k) part h =
    let (q, at, is) = reader_of_part 0 s.readers k part h in
    ap own_cursor is ∙ omega arith

pub parts_apart : (s : Ring) → Apart (parts_of s)
parts_apart s j k a b at bt e = sym (own_place s j a at) ∙ e ∙ own_place s k b bt

-- ---- the opened ring

pub at_replicate : {A : Type 0} (n k : ℕ) (x y : A) → slice_get (replicate n x) k ≡ Some y → (k < n) × (y ≡ x)
at_replicate zero k x y h = cc
at_replicate (suc n) zero x y h = (omega arith, cc)
at_replicate (suc n) (suc k) x y h = let (l, e) = at_replicate n k x y h in (omega arith, e)

module _ (spec : RingSpec) (ring : IsRing spec) where
  open_cursor : (r : ℕ) → r < spec.readers → slice_index (open_words spec) (1 + r) ≡ spec.id.first
  open_cursor r h =
      let l : r < length (replicate spec.readers spec.id.first) = rw length-replicate h in
      rw one-add (get_or_append_left (replicate spec.readers spec.id.first) (replicate (BLOCK_WORDS * spec.size) 0) 0 r l ∙ get_or-replicate spec.readers r spec.id.first 0 h)

  pub open_words_law : WordsLaw spec (open_words spec)
  open_words_law = record {
    sized = simp (length-append, length-replicate) (omega arith);
    in_total = let low = ring.in_order in omega arith;
    cursors = λ r h. rw (open_cursor r h) (inr (omega arith, omega arith));
  }

  pub open_reader_law : (r : ℕ) → r < spec.readers → ReaderLaw spec (open_words spec) r (open_reader spec)
  open_reader_law r h = record {
    known = h;
    from_first = omega arith;
    gone = λ e. absurd (false≢true e);
    here = λ e. record {
      cursor = open_cursor r h;
      taken_seen = omega arith;
      seen_published = omega arith;
      whole = λ n i low high l. absurd (omega arith);
      read_seen = omega arith;
      read_words = no_words spec.id.key spec.id.first;
    };
    at_end = λ e. absurd (false≢true e);
  }

  pub open_producer_law : ProducerLaw spec (open_words spec) (open_producer spec)
  open_producer_law = record {
    cursor = omega arith;
    from_first = omega arith;
    in_total = ring.in_order;
    gate_count = length-replicate spec.readers spec.id.first;
    gates_low = λ r h. rw (open_cursor r h, get_or-replicate) (omega arith);
    stored_in_total = λ j h. absurd (omega arith);
    stored_passed = λ j h r k ne. absurd (omega arith);
    stored_stand = λ j r h k ne. absurd (omega arith);
    none_stored = λ e. refl;
    as_opened = λ e none i l. refl;
  }

  -- Words with which the open parts are lawful are the open words.
  pub open_words_alone : (words : List ℕ) → WordsLaw spec words → ProducerLaw spec words (open_producer spec) → ((r : ℕ) → r < spec.readers → ReaderLaw spec words r (open_reader spec)) → words ≡ open_words spec
  open_words_alone words laws own readers = ext_get_or 0 words (open_words spec) (laws.sized ∙ sym open_words_law.sized) same
    where
      same : (i : ℕ) → i < length words → slice_index words i ≡ slice_index (open_words spec) i
      same zero h = let c = own.cursor in omega arith
      same (suc r) h = elim (cases_lt r spec.readers) [
        | inl below ↦ rw one-add at (((readers r below).here refl).cursor ∙ sym (open_cursor r below))
        | inr above ↦ own.as_opened refl refl (suc r) (omega arith)
      ]

  pub open_lawful : Lawful spec (open_words spec) (parts_of (open_ring spec))
  open_lawful = record { of_words = open_words_law; of_parts = laws }
    where
      laws : (k : ℕ) (part : Part) → slice_get (parts_of (open_ring spec)) k ≡ Some part → PartLaw spec (open_words spec) part
      laws zero part h = let e : part ≡ OfProducer (open_producer spec) = cc in rw e open_producer_law
      laws (suc k) part h =
          let (q, at, is) = reader_of_part 0 (replicate spec.readers (open_reader spec)) k part h in
          let (l, e) = at_replicate spec.readers k (open_reader spec) q at in
          rw (is, e) (open_reader_law (0 + k) (omega arith))
