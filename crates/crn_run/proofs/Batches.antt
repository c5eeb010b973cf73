-- One batch after another.
use Rattle.std.proofs.Common.{◌≡◌, suc, refl}
use Rattle.crn_proto.specs.declared.spec.RingSpec.{RingSpec}
use Rattle.crn_proto.specs.declared.actor_parts.ProducerPart.{ProducerPart}
use Rattle.crn_proto.specs.Ring.{producer_after, Finish}
use Rattle.crn_run.specs.Feeding.{Feeds, PublishesBatch, PublishesByBatches}
use Rattle.crn_run.specs.declared.waiting.Counted.{Counted}

pub none_yet : (spec : RingSpec) (p : ProducerPart) (w : Counted) → w.awake ≡ 0 → PublishesByBatches spec p p w
none_yet spec p w unwaited = record { count = 0; first = w; unwaited = unwaited; batches = (refl, refl) }

pub one_more : (spec : RingSpec) (p b p' : ProducerPart) (v w' : Counted) → PublishesByBatches spec p b v → PublishesBatch spec b v p' w' → PublishesByBatches spec p p' w'
one_more spec p b p' v w' before next = record { count = suc before.count; first = before.first; unwaited = before.unwaited; batches = (b, v, before.batches, next) }

pub all_fed : (spec : RingSpec) (p b p' : ProducerPart) (w : Counted) → PublishesByBatches spec p b w → b.published ≡ spec.id.total → p' ≡ producer_after b Finish 0 → Feeds spec p p'
all_fed spec p b p' w batches whole end = record { last = b; waited = w; batches = batches; whole = whole; end = end }
