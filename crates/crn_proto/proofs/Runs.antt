-- Every run keeps the ring lawful, and its events are a run of the broadcast list.
use Rattle.std.proofs.Common.{◌≡◌, ℕ, suc, zero, ◌+◌, ◌-◌, ◌/◌, ◌≤◌, Bool, true, false, List, [], ◌∷◌, ◌++◌, map, set, Some, None, refl, ap, subst, ◌∙◌, arith, zero-add, slice_get, slice_index, if◌then◌else◌}
use Rattle.std.proofs.lemmas.List.{map-set, set-get_or}
use Rattle.std.proofs.lemmas.Option.{slice_get-map, get_or_from_slice_get}
use Rattle.crn_proto.specs.declared.spec.RingSpec.{RingSpec}
use Rattle.crn_proto.specs.Stream.{front}
use Rattle.crn_proto.specs.Broadcast.{Broadcast, Event, Published, Happens, Unfolds, top}
use Rattle.crn_proto.specs.Ring.{IsRing, Reader, Ring, Move, ByProducer, ByReader, StoreWord, Publish, Finish, LoadCursor, Take, Leave, LeadsTo, Runs, ProducerMay, ReaderMay, open_ring, shows, count_of, events, bit}
use Rattle.crn_proto.specs.Lawful.{ProducerLaw, ReaderLaw, OfProducer, OfReader, Lawful, parts_of}
use Rattle.crn_proto.proofs.Fronts.{length-front, front_append}
use Rattle.crn_proto.proofs.ProducerMoves.{publish_near}
use Rattle.crn_proto.proofs.Parts.{lawful_moved, moved_by_producer, moved_by_reader, producer_keeps, reader_keeps}
use Rattle.crn_proto.proofs.Opening.{part_of_reader, parts_after_set, parts_apart, open_lawful}

-- ---- the law

reader_at : (s : Ring) (r : ℕ) (q : Reader) → slice_get s.readers r ≡ Some q → slice_get (parts_of s) (suc r) ≡ Some (OfReader r q)
reader_at s r q at = rw zero-add at (part_of_reader 0 s.readers r q at)

pub producer_law : (s : Ring) → Lawful s.spec s.words (parts_of s) → ProducerLaw s.spec s.words s.producer
producer_law s law = law.of_parts 0 (OfProducer s.producer) refl

pub reader_law : (s : Ring) → Lawful s.spec s.words (parts_of s) → (r : ℕ) (q : Reader) → slice_get s.readers r ≡ Some q → ReaderLaw s.spec s.words r q
reader_law s law r q at = law.of_parts (suc r) (OfReader r q) (reader_at s r q at)

pub step_lawful : (s t : Ring) (move : Move) → IsRing s.spec → Lawful s.spec s.words (parts_of s) → LeadsTo s move t → (t.spec ≡ s.spec) × Lawful t.spec t.words (parts_of t)
step_lawful s t (ByProducer m) ring law (may, is) =
    let keeps = producer_keeps s.spec ring s.words s.producer m law.of_words (producer_law s law) may in
    rw is (refl, (lawful_moved 0 law (parts_apart s) refl (moved_by_producer s.producer keeps)).0)
step_lawful s t (ByReader r m) ring law (q, at, may, is) =
    let keeps = reader_keeps s.spec ring s.words r q m law.of_words (reader_law s law r q at) may in
    rw (is, parts_after_set, zero-add) (refl, (lawful_moved (suc r) law (parts_apart s) (reader_at s r q at) (moved_by_reader q keeps)).0)

-- ---- what is shown

set_itself : {A : Type 0} (xs : List A) (i : ℕ) (x : A) → slice_get xs i ≡ Some x → set xs i x ≡ xs
set_itself xs i x h = subst (λ y. set xs i y ≡ xs) (get_or_from_slice_get xs i x x h) (set-get_or xs i x)

-- a reader whose count stays shows what it did
counts_stay : (readers : List Reader) (r : ℕ) (q after : Reader) → slice_get readers r ≡ Some q → count_of after ≡ count_of q → map count_of (set readers r after) ≡ map count_of readers
counts_stay readers r q after at same =
    let here : slice_get (map count_of readers) r ≡ Some (count_of q) = slice_get-map count_of readers r ∙ rw at refl in
    map-set count_of readers r after ∙ rw same (set_itself (map count_of readers) r (count_of q) here)

shown_count : (left : Bool) (taken count : ℕ) → (if left then None else Some taken) ≡ Some count → (left ≡ false) × (taken ≡ count)
shown_count true taken count h = cc
shown_count false taken count h = (refl, cc)

reader_shown : (readers : List Reader) (r count : ℕ) → slice_get (map count_of readers) r ≡ Some (Some count) → (q : Reader) × (slice_get readers r ≡ Some q) × (q.left ≡ false) × (q.taken ≡ count)
reader_shown [] r count h = cc
reader_shown (q ∷ readers) zero count h = let e : count_of q ≡ Some count = cc in let (here, is) = shown_count q.left q.taken count e in (q, refl, here, is)
reader_shown (q ∷ readers) (suc r) count h = reader_shown readers r count h

count_here : (s : Ring) (r : ℕ) (q : Reader) → slice_get s.readers r ≡ Some q → q.left ≡ false → slice_get (map count_of s.readers) r ≡ Some (Some q.taken)
count_here s r q at here = rw (slice_get-map, at, here) refl

publish_shows : (s : Ring) (c : ℕ) → IsRing s.spec → Lawful s.spec s.words (parts_of s) → ProducerMay s.spec s.producer (Publish c)
    → Happens (shows s) (Published c) (record (shows s) { items = front s.spec.id.key s.spec.id.first (s.producer.published + c - s.spec.id.first) })
publish_shows s c ring law may =
    let own = producer_law s law in
    let key = s.spec.id.key in
    let first = s.spec.id.first in
    let published = s.producer.published in
    let longer : published + c - first ≡ published - first + c = omega arith in
    let last : first + (published - first) ≡ published = omega arith in (
      front key published c,
      length-front key published c,
      may.2,
      may.0,
      λ r count h.
          let (q, at, here, is) = reader_shown s.readers r count h in
          let law_r = reader_law s law r q at in
          let known = law_r.here here in
          let near = publish_near s.spec ring s.words s.producer law.of_words own c may r law_r.known (λ e. omega arith) in
          let n = length-front key first (published - first) in
          omega arith,
      ap (λ xs. record (shows s) { items = xs }) (rw (longer, front_append, last) refl),
    )

pub bit_small : (b : Bool) → bit b ≤ 1
bit_small true = omega arith
bit_small false = omega arith

-- half of the ring cursor is the published count
pub half_is : (s : Ring) → Lawful s.spec s.words (parts_of s) → slice_index s.words 0 / 2 ≡ s.producer.published
half_is s law = let c = (producer_law s law).cursor in let b = bit_small s.producer.ended in omega arith

-- what is taken was published
pub taken_published : (s : Ring) (r : ℕ) (q : Reader) (c : ℕ) → Lawful s.spec s.words (parts_of s) → slice_get s.readers r ≡ Some q → ReaderMay q (Take c) → q.taken + c ≤ s.producer.published
taken_published s r q c law at may =
    let here = (reader_law s law r q at).here may.0 in
    omega (arith, here.read_seen, here.seen_published, half_is s law, may.1)

taken_shown : (s : Ring) (r : ℕ) (q : Reader) (c : ℕ) → Lawful s.spec s.words (parts_of s) → slice_get s.readers r ≡ Some q → ReaderMay q (Take c) → q.taken + c ≤ top (shows s)
taken_shown s r q c law at may =
    omega (arith, length-front s.spec.id.key s.spec.id.first (s.producer.published - s.spec.id.first), (producer_law s law).from_first, taken_published s r q c law at may)

pub ring_at : (spec : RingSpec) → IsRing spec → (other : RingSpec) → other ≡ spec → IsRing other
ring_at spec ring other e = rw e ring

step_shows : (s t : Ring) (move : Move) → IsRing s.spec → Lawful s.spec s.words (parts_of s) → LeadsTo s move t → Unfolds (shows s) (events (move ∷ [])) (shows t)
step_shows s t (ByProducer (Publish c)) ring law (may, is) = (_, publish_shows s c ring law may, rw is refl)
step_shows s t (ByProducer Finish) ring law (may, is) = (_, (may.0, refl), rw is refl)
step_shows s t (ByProducer m) ring law (may, is) = rw is refl
step_shows s t (ByReader r (Take c)) ring law (q, at, may, is) =
    (_, (q.taken, count_here s r q at may.0, may.2, taken_shown s r q c law at may, refl), rw is (ap (λ xs. record (shows s) { counts = xs }) (rw (map-set, may.0) refl)))
step_shows s t (ByReader r Leave) ring law (q, at, may, is) =
    (_, (q.taken, count_here s r q at may.0, refl), rw is (ap (λ xs. record (shows s) { counts = xs }) (map-set count_of s.readers r _)))
step_shows s t (ByReader r m) ring law (q, at, may, is) =
    rw is (ap (λ xs. record (shows s) { counts = xs }) (counts_stay s.readers r q _ at refl))

-- ---- runs

Unfolds_append : (a b c : Broadcast) (es fs : List Event) → Unfolds a es b → Unfolds b fs c → Unfolds a (es ++ fs) c
Unfolds_append a b c [] fs first second = rw first at second
Unfolds_append a b c (e ∷ es) fs (mid, one, more) second = (mid, one, Unfolds_append mid b c es fs more second)

events_cons : (move : Move) (moves : List Move) → events (move ∷ moves) ≡ events (move ∷ []) ++ events moves
events_cons (ByProducer StoreWord) moves = refl
events_cons (ByReader r LoadCursor) moves = refl
events_cons move moves = refl

runs_from : (spec : RingSpec) → IsRing spec → (moves : List Move) (s t : Ring) → s.spec ≡ spec → Lawful s.spec s.words (parts_of s) → Runs s moves t
    → (t.spec ≡ spec) × Lawful t.spec t.words (parts_of t) × Unfolds (shows s) (events moves) (shows t)
runs_from spec ring [] s t same law run = rw run (same, law, refl)
runs_from spec ring (move ∷ moves) s t same law (mid, step, run) =
    let here = ring_at spec ring s.spec same in
    let (kept, next) = step_lawful s mid move here law step in
    let (final, lawful, more) = runs_from spec ring moves mid t (kept ∙ same) next run in
    (final, lawful, rw events_cons (Unfolds_append (shows s) (shows mid) (shows t) (events (move ∷ [])) (events moves) (step_shows s mid move here law step) more))

pub runs_lawful : (spec : RingSpec) → IsRing spec → (moves : List Move) (s : Ring) → Runs (open_ring spec) moves s
    → (s.spec ≡ spec) × Lawful s.spec s.words (parts_of s) × Unfolds (shows (open_ring spec)) (events moves) (shows s)
runs_lawful spec ring moves s run = runs_from spec ring moves (open_ring spec) s refl (open_lawful spec ring) run
