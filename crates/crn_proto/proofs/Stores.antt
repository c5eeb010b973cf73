-- How many stores a run has, with batches of every length.
use Rattle.std.proofs.Common.{◌≡◌, ℕ, zero, suc, inl, inr, ◌+◌, ◌-◌, ◌*◌, ◌≤◌, List, [], ◌∷◌, length, set, Some, refl, sym, ap, ◌∙◌, arith, slice_get, slice_index}
use Rattle.crn_cipher.specs.declared.TheConstants.{BLOCK_WORDS}
use Rattle.std.proofs.lemmas.Bool.{cases_lt}
use Rattle.std.proofs.lemmas.List.{length-set, length-replicate}
use Rattle.crn_proto.specs.declared.spec.RingSpec.{RingSpec}
use Rattle.crn_proto.specs.Ring.{IsRing, Reader, Ring, Move, ByProducer, ByReader, Publish, Finish, Take, Leave, LeadsTo, Runs, reader_after, reader_word, open_ring, open_reader, bit}
use Rattle.crn_proto.specs.Lawful.{Lawful, parts_of}
use Rattle.crn_proto.specs.Traces.{kind_of}
use Rattle.crn_proto.specs.Progress.{blocks_of, is_store, stores_in, store_limit, StoresAreBounded}
use Rattle.crn_proto.proofs.Parts.{get_set_cases}
use Rattle.crn_proto.proofs.Opening.{open_lawful, at_replicate}
use Rattle.crn_proto.proofs.Runs.{bit_small, step_lawful, producer_law, reader_law, taken_published, ring_at}

-- ---- what is stored: each store adds one to it, or more for a batch of several blocks

abbrev reader_stored : ℕ → Reader → ℕ
reader_stored first q = q.taken - first + bit q.left

abbrev readers_stored : ℕ → List Reader → ℕ
readers_stored first [] = 0
readers_stored first (q ∷ readers) = reader_stored first q + readers_stored first readers

abbrev stored_by : Ring → ℕ
stored_by s = (BLOCK_WORDS + 1) * (s.producer.published - s.spec.id.first) + s.producer.stored + bit s.producer.ended + readers_stored s.spec.id.first s.readers

readers_stored_set : (first : ℕ) (readers : List Reader) (r : ℕ) (q p : Reader) → slice_get readers r ≡ Some q → readers_stored first (set readers r p) + reader_stored first q ≡ readers_stored first readers + reader_stored first p
readers_stored_set first [] r q p at = cc
readers_stored_set first (x ∷ readers) zero q p at = let e : x ≡ q = cc in rw e (omega arith)
readers_stored_set first (x ∷ readers) (suc r) q p at = let more = readers_stored_set first readers r q p at in omega arith

-- no reader has taken more than there is
abbrev TakenFew : Ring → Type 0
TakenFew s = (r : ℕ) (q : Reader) → slice_get s.readers r ≡ Some q → q.taken ≤ s.spec.id.total

few_after : (s : Ring) (r : ℕ) (p : Reader) → TakenFew s → p.taken ≤ s.spec.id.total → (k : ℕ) (q : Reader) → slice_get (set s.readers r p) k ≡ Some q → q.taken ≤ s.spec.id.total
few_after s r p few here k q at = elim (get_set_cases s.readers r k p q at) [ inl (e, is) ↦ rw is here | inr (ne, old) ↦ few k q old ]

-- a reader that adds n
gains : (first : ℕ) (readers : List Reader) (r : ℕ) (q p : Reader) (n : ℕ) → slice_get readers r ≡ Some q → reader_stored first q + n ≤ reader_stored first p → readers_stored first readers + n ≤ readers_stored first (set readers r p)
gains first readers r q p n at more = let sum = readers_stored_set first readers r q p at in omega arith

step_stores : (s t : Ring) (move : Move) → IsRing s.spec → Lawful s.spec s.words (parts_of s) → TakenFew s → LeadsTo s move t → TakenFew t × (stored_by s + bit (is_store (kind_of move)) ≤ stored_by t)
step_stores s t (ByProducer (Publish c)) ring law few (may, is) =
    let low = (producer_law s law).from_first in
    rw is (few, omega arith)
step_stores s t (ByProducer Finish) ring law few (may, is) = let going = may.0 in rw (is, going) (few, omega arith)
step_stores s t (ByProducer m) ring law few (may, is) = rw is (few, omega arith)
step_stores s t (ByReader r (Take c)) ring law few (q, at, may, is) =
    let most = taken_published s r q c law at may in
    let total = (producer_law s law).in_total in
    let low = (reader_law s law r q at).from_first in
    let p = reader_after q (Take c) (slice_index s.words (1 + r)) in
    let sum = gains s.spec.id.first s.readers r q p 1 at (omega arith) in
    rw is (few_after s r p few (omega arith), omega arith)
step_stores s t (ByReader r Leave) ring law few (q, at, may, is) =
    let p = reader_after q Leave (slice_index s.words (1 + r)) in
    let here : bit q.left ≡ 0 = rw may.0 refl in
    let sum = gains s.spec.id.first s.readers r q p 1 at (omega arith) in
    rw is (few_after s r p few (few r q at), omega arith)
step_stores s t (ByReader r m) ring law few (q, at, may, is) =
    let p = reader_after q m (slice_index s.words (reader_word s.spec r q m)) in
    let sum = gains s.spec.id.first s.readers r q p 0 at (omega arith) in
    rw is (few_after s r p few (few r q at), omega arith)

-- where a run leads to
record Stored (s : Ring) (moves : List Move) (t : Ring) : Type 0 where
  spec : t.spec ≡ s.spec
  law : Lawful t.spec t.words (parts_of t)
  few : TakenFew t
  count : length t.readers ≡ length s.readers
  stores : stored_by s + stores_in moves ≤ stored_by t

step_count : (s t : Ring) (move : Move) → LeadsTo s move t → length t.readers ≡ length s.readers
step_count s t (ByProducer m) (may, is) = rw is refl
step_count s t (ByReader r m) (q, at, may, is) = rw is (length-set s.readers r _)

run_stores : (spec : RingSpec) → IsRing spec → (moves : List Move) (s t : Ring) → s.spec ≡ spec → Lawful s.spec s.words (parts_of s) → TakenFew s → Runs s moves t → Stored s moves t
run_stores spec ring [] s t same law few run = rw run (record { spec = refl; law = law; few = few; count = refl; stores = omega arith })
run_stores spec ring (move ∷ moves) s t same law few (mid, step, run) =
    let here = ring_at spec ring s.spec same in
    let (kept, next) = step_lawful s mid move here law step in
    let (still, more) = step_stores s mid move here law few step in
    let rest = run_stores spec ring moves mid t (kept ∙ same) next still run in
    record { spec = rest.spec ∙ kept; law = rest.law; few = rest.few; count = rest.count ∙ step_count s mid move step; stores = omega arith }

-- ---- the most that can be stored

readers_most : (first most : ℕ) (readers : List Reader) → ((r : ℕ) (q : Reader) → slice_get readers r ≡ Some q → reader_stored first q ≤ most) → readers_stored first readers ≤ length readers * most
readers_most first most [] each = omega arith
readers_most first most (q ∷ readers) each =
    let more = readers_most first most readers (λ r p at. each (suc r) p at) in
    let here = each 0 q refl in
    let product : (length readers + 1) * most ≡ length readers * most + most = omega arith in
    omega arith

stored_most : (s : Ring) → length s.readers ≡ s.spec.readers → Lawful s.spec s.words (parts_of s) → TakenFew s → stored_by s ≤ store_limit s.spec
stored_most s n law few =
    let own = producer_law s law in
    let b = bit_small s.producer.ended in
    let readers : readers_stored s.spec.id.first s.readers ≤ length s.readers * (blocks_of s.spec + 1) =
    readers_most s.spec.id.first (blocks_of s.spec + 1) s.readers (λ r q at.
    let most = few r q at in
    let left = bit_small q.left in
    omega arith) in
    let all = rw n at readers in
    elim (cases_lt 0 s.producer.stored) [
      | inl some ↦ let last = own.stored_in_total (s.producer.stored - 1) (omega arith) in omega arith
      | inr none ↦ omega arith
    ]

open_few : (spec : RingSpec) → IsRing spec → TakenFew (open_ring spec)
open_few spec ring r q at = let (l, e) = at_replicate spec.readers r (open_reader spec) q at in let order = ring.in_order in rw e (omega arith)

pub stores_are_bounded : StoresAreBounded
stores_are_bounded spec moves s ring run =
    let few = open_few spec ring in
    let all = run_stores spec ring moves (open_ring spec) s refl (open_lawful spec ring) few run in
    let readers : s.spec.readers ≡ spec.readers = ap (λ x. x.readers) all.spec in
    let count : length s.readers ≡ s.spec.readers = all.count ∙ length-replicate spec.readers (open_reader spec) ∙ sym readers in
    let most = stored_most s count all.law all.few in
    let limit : store_limit s.spec ≡ store_limit spec = ap store_limit all.spec in
    omega (arith, all.stores)
