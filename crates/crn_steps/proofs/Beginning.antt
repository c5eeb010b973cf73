-- The table at open meets the rule, and so does each cut of a seat.
use Rattle.std.proofs.Common.{◌≡◌, ℕ, true, zero, suc, ◌+◌, ◌-◌, ◌<◌, List, [], ◌∷◌, ◌++◌, set, refl, sym, ap, ◌∙◌, arith, append-nil}
use Rattle.std.proofs.lemmas.Bool.{false≢true}
use Rattle.std.specs.Int.{is_power_of_two}
use mathlib.Core.Option.{some}
use lib.ListN.{get_elem?}
use Rattle.atomic_table.specs.Table.{opening, Splits}
use Rattle.crn_proto.specs.declared.spec.RingSpec.{RingSpec}
use Rattle.crn_proto.specs.Ring.{IsRing, open_words, open_producer, open_reader}
use Rattle.crn_proto.specs.declared.actor_parts.Part.{Part}
use Rattle.crn_proto.specs.Views.{waiting_parts}
use Rattle.crn_proto.proofs.Opening.{open_words_law}
use Rattle.crn_proto.proofs.Waiting.{waiting_lawful, waiting_single}
use Rattle.crn_proto.proofs.Views.{rule_cut}
use Rattle.crn_steps.specs.declared.view.Role.TheVariants.{Producer}
use Rattle.crn_steps.specs.declared.view.View.{View}
use Rattle.crn_steps.specs.Holds.{parts_of_view, Holds, opened}
use Rattle.crn_steps.specs.Plays.{cut_left, cut_right}
use Rattle.crn_steps.proofs.Allowed.{got, spec_stays}

-- zero is no power of two
pub power_positive : (n : ℕ) → is_power_of_two n ≡ true → 0 < n
unfolding lib.Count.ones
power_positive zero e = absurd (false≢true e)
power_positive (suc n) e = omega arith

pub begins : (spec : RingSpec) → IsRing spec → Holds spec (opening (open_words spec) [] (opened spec 0))
begins spec ring = record {
  ring = ring;
  rule = record {
    lawful = record {
      of_words = open_words_law spec ring;
      of_parts = rw all (waiting_lawful spec ring 0 (spec.readers - 0) (omega arith));
    };
    single = λ a. rw all (waiting_single a (open_producer spec) (open_reader spec) 0 (spec.readers - 0));
  };
  same_ring = one;
}
  where
    waiting : List Part
    waiting = waiting_parts (open_producer spec) (open_reader spec) 0 (spec.readers - 0)

    all : waiting ++ [] ≡ waiting
    all = append-nil waiting

    one : (k : ℕ) (v : View) → get_elem? (opened spec 0 ∷ []) k ≡ some v → v.spec ≡ spec
    one zero v h = let e : opened spec 0 ≡ v = cc in sym (ap (λ u. u.spec) e)
    one (suc k) v h = cc

-- a reader that waits is the first of the parts
pub parts_cut : (v : View) → v.role ≡ Producer → v.number < v.spec.readers → parts_of_view v ≡ parts_of_view (cut_right v) ++ parts_of_view (cut_left v)
parts_cut v role waits =
    let more : v.spec.readers - v.number ≡ suc (v.spec.readers - (v.number + 1)) = omega arith in
    let next : suc v.number ≡ v.number + 1 = omega arith in
    rw (role, more, next) refl

pub cuts : (spec : RingSpec) (id r : ℕ) → r < spec.readers → Splits {S = Unit {0}} (Holds spec) id (opened spec r) (cut_left (opened spec r)) (cut_right (opened spec r))
cuts spec id r inside s law at = record {
  ring = law.ring;
  rule = rule_cut parts_of_view spec s.words s.views id (opened spec r) (cut_left (opened spec r)) (cut_right (opened spec r)) law.rule (got s.views id (opened spec r) at) (parts_cut (opened spec r) refl inside);
  same_ring = pushed (set s.views id (cut_left (opened spec r))) (cut_right (opened spec r)) refl (spec_stays spec s.views id (cut_left (opened spec r)) refl law.same_ring);
}
  where
    pushed : (views : List View) (last : View) → last.spec ≡ spec → ((k : ℕ) (w : View) → get_elem? views k ≡ some w → w.spec ≡ spec) → (k : ℕ) (w : View) → get_elem? (views ++ last ∷ []) k ≡ some w → w.spec ≡ spec
    pushed [] last e all zero w h = let same : last ≡ w = cc in sym (ap (λ u. u.spec) same) ∙ e
    pushed [] last e all (suc k) w h = cc
    pushed (x ∷ xs) last e all zero w h = all 0 w h
    pushed (x ∷ xs) last e all (suc k) w h = pushed xs last e (λ j. all (suc j)) k w h
