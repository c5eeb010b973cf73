use Rattle.std.proofs.Common.{◌≡◌, sym, ap, ◌∙◌, subst, arith}
use Rattle.crn_proto.specs.declared.spec.RingSpec.{RingSpec}
use Rattle.crn_proto.specs.Opening.{CanOpen}
use Rattle.crn_steps.specs.declared.view.View.{View}
use Rattle.crn_steps.specs.Holds.{opened}
use Rattle.crn_steps.specs.Seats.{view_of}
use Rattle.crn_ring.specs.Gates.{Remembers}
use Rattle.crn_ring.proofs.Opened.{is_opened}
use Rattle.crn_ring.proofs.Remembering.{at_open}
use Rattle.crn_ring.proofs.ring.Ring.with_actors.Goals as goal

pub returns : goal.returns
returns c =
    let cut = c.cut_all-seat.ensures in
    is_opened c.args.spec _ _ c.cut_all-seat.result.1.items c.in_ok-words.ensures.spec cut.own cut.producer cut.readers.0 cut.readers.1

pub invariant_of-producer : goal.invariant_of-producer
invariant_of-producer c =
    let spec : RingSpec = c.in_ok-words.words.spec in
    let view : view_of c.cut_all-seat.result.0 ≡ opened spec spec.readers = c.cut_all-seat.ensures.producer in
    let can : CanOpen spec = subst CanOpen (sym c.in_ok-words.ensures.spec) c.requires in
    let some = can.readers.0 in let ordered = can.stream.0 in let few = can.stream.1 in record {
      role = (ap (λ (v : View). v.role) view, ap (λ (v : View). v.number) view ∙ sym (ap (λ (v : View). v.spec.readers) view));
      counts = sym (ap (λ (v : View). v.producer.published) view);
      ends = sym (ap (λ (v : View). v.producer.ended) view);
      rests = ap (λ (v : View). v.producer.stored) view;
      looks = ap (λ (v : View). v.passed) view;
      within = (let total = ap (λ (v : View). v.spec.id.total) view in omega arith);
      remembers = subst (λ (v : View). Remembers v.spec.size spec.id.first v.spec.readers v.producer.gates spec.id.first) (sym view) (at_open spec.size spec.id.first spec.readers some (omega arith));
    }
