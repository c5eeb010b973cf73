-- The parts that wait in the first seat of a ring.
use Rattle.std.proofs.Common.{◌≡◌, ℕ, zero, suc, ◌+◌, ◌<◌, ◌≤◌, Some, refl, arith, ne_eqb, inl, inr, slice_get}
use Rattle.std.proofs.lemmas.Bool.{cases_eq, eq-eqb}
use Rattle.crn_proto.specs.declared.spec.RingSpec.{RingSpec}
use Rattle.crn_proto.specs.Ring.{IsRing, Producer, Reader, open_words, open_producer, open_reader}
use Rattle.crn_proto.specs.Lawful.{Part, OfProducer, OfReader, PartLaw}
use Rattle.crn_proto.specs.Views.{parts_named, waiting_parts}
use Rattle.crn_proto.proofs.Opening.{open_producer_law, open_reader_law}

-- of the open parts each is lawful
pub waiting_lawful : (spec : RingSpec) → IsRing spec → (r count : ℕ) → r + count ≤ spec.readers → (k : ℕ) (part : Part)
    → slice_get (waiting_parts (open_producer spec) (open_reader spec) r count) k ≡ Some part → PartLaw spec (open_words spec) part
waiting_lawful spec ring r zero few zero part h = let e : part ≡ OfProducer (open_producer spec) = cc in rw e (open_producer_law spec ring)
waiting_lawful spec ring r zero few (suc k) part h = cc
waiting_lawful spec ring r (suc count) few zero part h = let e : part ≡ OfReader r (open_reader spec) = cc in rw e (open_reader_law spec ring r (omega arith))
waiting_lawful spec ring r (suc count) few (suc k) part h = waiting_lawful spec ring (suc r) count (omega arith) k part h

-- a reader below the first that waits has none of the parts
none_named : (a : ℕ) (p : Producer) (q : Reader) (r count : ℕ) → 0 < a → a < suc r → parts_named a (waiting_parts p q r count) ≡ 0
none_named a p q r zero low high = let e = ne_eqb 0 a (λ e. omega arith) in rw e refl
none_named a p q r (suc count) low high =
    let e = ne_eqb (1 + r) a (λ e. omega arith) in
    let more = none_named a p q (suc r) count low (omega arith) in
    rw (e, more) refl

-- no two of the parts are of one actor
pub waiting_single : (a : ℕ) (p : Producer) (q : Reader) (r count : ℕ) → parts_named a (waiting_parts p q r count) ≤ 1
waiting_single a p q r zero = elim (cases_eq 0 a) [
  | inl e ↦ rw (eq-eqb 0 a e) (omega arith)
  | inr ne ↦ rw (ne_eqb 0 a ne) (omega arith)
]
waiting_single a p q r (suc count) = elim (cases_eq (1 + r) a) [
  | inl e ↦ let none = none_named a p q (suc r) count (omega arith) (omega arith) in rw (eq-eqb (1 + r) a e, none) (omega arith)
  | inr ne ↦ let more = waiting_single a p q (suc r) count in rw (ne_eqb (1 + r) a ne) (omega arith)
]
