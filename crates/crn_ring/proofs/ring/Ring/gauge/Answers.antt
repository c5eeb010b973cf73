use Rattle.std.proofs.Common.{◌≡◌, ℕ, ◌+◌, ◌∙◌, ap, sym, subst, arith, length}
use Rattle.crn_ring.specs.Gates.{Passes}
use Rattle.crn_ring.specs.Inner.Gates.{LeastOf}
use Rattle.crn_ring.specs.Inner.Plays.{Gauged}
use Rattle.crn_steps.specs.declared.view.View.{View}
use Rattle.crn_proto.specs.declared.spec.RingSpec.{RingSpec}
use Rattle.crn_proto.specs.Ring.{ProducerMay, producer_after}
use Rattle.crn_proto.proofs.Chains.{reaches_join, reaches_more}
use Rattle.crn_ring.proofs.Gauging.{gauged_more, least_more}
use Rattle.crn_steps.specs.Seats.{passed_in, producer_in, view_of}
use Rattle.crn_ring.proofs.ring.Ring.gauge.Goals as goal

pub loop-r-preserved : goal.loop-r-preserved
loop-r-preserved c = let inv = c.loop-r.invariant in let e = c.load_gate-count.ensures in let x : ℕ = c.load_gate-count.result in
    let size : ℕ = c.args.self.now.words.spec.size in
    let p : Passes size c.args.n x = c.lets_in.ensures.passes c.if-not-lets_in.false in (
      e.own.0 ∙ inv.0,
      e.own.1 ∙ inv.1,
      subst (Gauged size c.args.n (c.loop-r.r + 1) (view_of c.args.seat.now)) (sym (ap (λ m. m.0) e.view))
          (gauged_more size c.args.n c.loop-r.r x (view_of c.args.seat.now) (view_of c.loop-r.seat) (ap (λ (v : View). v.spec.size) inv.2.same ∙ ap (λ (z : RingSpec). z.size) c.requires.own.0.1) (ap (λ (v : View). v.producer.published) inv.2.same ∙ c.requires.at.1) inv.2 (let l : length (producer_in c.loop-r.seat).gates ≡ c.args.self.now.words.spec.readers = e.gates in omega arith) p),
      reaches_join (ProducerMay c.args.self.now.words.spec) producer_after _ _ _ c.loop-r.r 1 inv.3 e.moved,
      subst (λ (t : View × ℕ). LeastOf (c.loop-r.r + 1) t.0.producer.gates t.1) (λ i. ((sym (ap (λ m. m.0) e.view)) i, (sym c.min-least.ensures) i))
          (least_more c.loop-r.r (producer_in c.loop-r.seat).gates c.loop-r.least x inv.4 (let l : length (producer_in c.loop-r.seat).gates ≡ c.args.self.now.words.spec.readers = e.gates in omega arith)),
    )

pub load_gate-count-requires-clause-goes_on : goal.load_gate-count-requires-clause-goes_on
load_gate-count-requires-clause-goes_on c = let g = c.loop-r.invariant.2 in (
  ap (λ (v : View). v.producer.stored) g.same ∙ c.requires.rests.0,
  (let published = ap (λ (v : View). v.producer.published) g.same in let now = c.requires.at.1 in let more = c.requires.at.2 in omega arith),
  (let passed : passed_in c.loop-r.seat ≡ passed_in c.args.seat.now + c.loop-r.r = ap (λ (v : View). v.passed) g.same in let none = c.requires.rests.1 in omega arith),
)

pub returns-then-not-lets_in-clause-moved : goal.returns-then-not-lets_in-clause-moved
returns-then-not-lets_in-clause-moved c = let spec = c.args.self.now.words.spec in
    reaches_more (ProducerMay spec) producer_after _ _ (c.loop-r.r + 1) spec.readers (omega arith) (reaches_join (ProducerMay spec) producer_after _ _ _ c.loop-r.r 1 c.loop-r.invariant.3 c.load_gate-count.ensures.moved)
