-- A table that meets the rule while all parts are open has the words of the open ring.
use Rattle.std.proofs.Common.{◌≡◌, ℕ, zero, suc, ◌+◌, ◌-◌, ◌<◌, Some, refl, arith, slice_get, append-nil}
use Rattle.crn_proto.specs.declared.actor_parts.Part.{Part}
use Rattle.crn_proto.specs.declared.actor_parts.Part.TheVariants.{OfProducer, OfReader}
use Rattle.crn_proto.specs.declared.actor_parts.ProducerPart.{ProducerPart}
use Rattle.crn_proto.specs.declared.actor_parts.ReaderPart.{ReaderPart}
use Rattle.crn_proto.specs.Ring.{open_producer, open_reader}
use Rattle.crn_proto.specs.Lawful.{PartLaw}
use Rattle.crn_proto.specs.Views.{waiting_parts}
use Rattle.crn_proto.proofs.Opening.{open_words_alone}
use Rattle.crn_steps.specs.Schedules.{OpensAsTheOpenRing}

pub waiting_reader : (p : ProducerPart) (q : ReaderPart) (r count k : ℕ) → k < count → slice_get (waiting_parts p q r count) k ≡ Some (OfReader (r + k) q)
waiting_reader p q r zero k h = absurd (omega arith)
waiting_reader p q r (suc count) zero h = let e : r ≡ r + 0 = omega arith in cc
waiting_reader p q r (suc count) (suc k) h = let e : suc r + k ≡ r + suc k = omega arith in rw e at (waiting_reader p q (suc r) count k (omega arith))

pub waiting_producer : (p : ProducerPart) (q : ReaderPart) (r count : ℕ) → slice_get (waiting_parts p q r count) count ≡ Some (OfProducer p)
waiting_producer p q r zero = refl
waiting_producer p q r (suc count) = waiting_producer p q (suc r) count

pub opens_as_the_open_ring : OpensAsTheOpenRing
opens_as_the_open_ring spec words law =
    let p = open_producer spec in
    let q = open_reader spec in
    let count = spec.readers - 0 in
    let each : (k : ℕ) (part : Part) → slice_get (waiting_parts p q 0 count) k ≡ Some part → PartLaw spec words part = rw append-nil at law.rule.lawful.of_parts in
    open_words_alone spec law.ring words law.rule.lawful.of_words (each count (OfProducer p) (waiting_producer p q 0 count))
    (λ r h. each r (OfReader r q) (let e : 0 + r ≡ r = omega arith in rw e at (waiting_reader p q 0 count r (omega arith))))
