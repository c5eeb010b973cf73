-- The words of an opened ring, by what its seats know.
use Rattle.std.proofs.Common.{◌≡◌, ℕ, zero, suc, ◌<◌, List, [], ◌∷◌, length, Some, refl, sym, ap, ◌∙◌, subst, arith}
use Rattle.std.specs.Prelude.{slice_get}
use Rattle.crn_proto.specs.declared.spec.RingSpec.{RingSpec}
use Rattle.crn_proto.specs.declared.actor_parts.Part.TheVariants.{OfProducer, OfReader}
use Rattle.crn_proto.specs.Ring.{open_words, open_producer, open_reader}
use Rattle.crn_proto.specs.Lawful.{ProducerLaw, ReaderLaw}
use Rattle.crn_proto.proofs.Opening.{open_words_alone}
use Rattle.crn_steps.specs.declared.view.View.{View}
use Rattle.crn_steps.specs.Holds.{Holds, opened}
use Rattle.crn_steps.specs.Schedules.{TableState}
use Rattle.crn_steps.specs.Seats.{view_of}
use Rattle.crn_steps.proofs.Allowed.{own_law, producer_alone, reader_alone}
use Rattle.crn_ring.specs.declared.ring.Ring.{Ring}
use Rattle.crn_ring.specs.declared.producer.Producer.{Producer}
use Rattle.crn_ring.specs.declared.reader.Reader.{Reader}
use Rattle.crn_ring.specs.Calls.{AllFresh, IsOpened, IsStateOf, producer_part, reader_part, spec_of}

there : {A : Type 0} (xs : List A) (k : ℕ) → k < length xs → (x : A) × (slice_get xs k ≡ Some x)
there [] k h = absurd (omega arith)
there (x ∷ xs) zero h = (x, refl)
there (x ∷ xs) (suc k) h = there xs k (omega arith)

pub words_at_open : (spec : RingSpec) (ring : Ring) (p : Producer) (readers : List Reader) → spec_of ring ≡ spec → producer_part p ≡ open_producer spec → length readers ≡ spec.readers → AllFresh ring readers
    → (s : TableState) → IsStateOf ring p readers s → s.words ≡ open_words spec
words_at_open spec ring p readers as_given opens all fresh s state =
    let law : Holds spec s = subst (λ (z : RingSpec). Holds z s) as_given state.rule in
    let own : ProducerLaw spec s.words (producer_part p) = own_law spec s p.seat.id (view_of p.seat) (OfProducer (producer_part p)) law state.producer (producer_alone (view_of p.seat) p.role) in
    let readers_laws : (r : ℕ) → r < spec.readers → ReaderLaw spec s.words r (open_reader spec) = λ r h.
    let (x, is) = there readers r (omega arith) in
    let (of, number, part) = fresh r x is in
    let one : ReaderLaw spec s.words (view_of x.seat).number (reader_part x) = own_law spec s x.seat.id (view_of x.seat) (OfReader (view_of x.seat).number (reader_part x)) law (state.reader r x is) (reader_alone (view_of x.seat) x.role) in
    let numbered : ReaderLaw spec s.words r (reader_part x) = subst (λ (k : ℕ). ReaderLaw spec s.words k (reader_part x)) (sym x.numbered ∙ number) one in
    let opened : ReaderLaw spec s.words r (open_reader (spec_of ring)) = subst (ReaderLaw spec s.words r) part numbered in
    subst (λ (z : RingSpec). ReaderLaw spec s.words r (open_reader z)) as_given opened
    in
    open_words_alone spec law.ring s.words law.rule.lawful.of_words (subst (ProducerLaw spec s.words) opens own) readers_laws

-- what the seats of all actors are makes an opened ring
pub is_opened : (spec : RingSpec) (ring : Ring) (p : Producer) (readers : List Reader) → spec_of ring ≡ spec → p.seat.table_id ≡ ring.words.table.shared.table_id → view_of p.seat ≡ opened (spec_of ring) (spec_of ring).readers
    → length readers ≡ (spec_of ring).readers → AllFresh ring readers → IsOpened spec ring p readers
is_opened spec ring p readers as_given at view count fresh =
    let opens : producer_part p ≡ open_producer spec = ap (λ (v : View). v.producer) view ∙ ap open_producer as_given in
    let all : length readers ≡ spec.readers = count ∙ ap (λ (z : RingSpec). z.readers) as_given in record {
      as_given = as_given;
      producer_of = (at, ap (λ (v : View). v.spec) view);
      producer_open = opens;
      count = all;
      readers_open = fresh;
      words_open = words_at_open spec ring p readers as_given opens all fresh;
    }
