-- Each step of a ring's table is a move of the ring.
use Rattle.std.proofs.Common.{◌≡◌, ℕ, suc, zero, ◌+◌, ◌-◌, ◌<◌, ◌≤◌, ◌≢◌, List, [], ◌∷◌, ◌++◌, replicate, set, Some, inl, inr, refl, sym, ap, ◌∙◌, subst, arith, length-set, get_or-set_same, slice_get, slice_index, slice_set, flat_map}
use mathlib.Core.Option.{some, none}
use lib.ListN.{get_elem?}
use Rattle.std.proofs.lemmas.List.{append-nil, length-replicate, get_or-replicate}
use Rattle.std.proofs.lemmas.Grind.{flat_map-append}
use Rattle.std.proofs.lemmas.Option.{slice_get-get_or, slice_get_within}
use Rattle.atomic_table.specs.Table.{step, stepped}
use Rattle.crn_proto.specs.declared.spec.RingSpec.{RingSpec}
use Rattle.crn_proto.specs.declared.actor_parts.Part.{Part}
use Rattle.crn_proto.specs.declared.actor_parts.Part.TheVariants.{OfProducer, OfReader}
use Rattle.crn_proto.specs.Ring.{Ring, ProducerMove, LoadGate, StoreWord, Finish, ReaderMove, LoadCursor, LoadWord, Leave, ByProducer, ByReader, LeadsTo, ProducerMay, ReaderMay, producer_word, producer_leaves, producer_after, reader_word, reader_leaves, reader_after, open_ring, open_producer, open_reader}
use Rattle.crn_proto.specs.declared.actor_parts.ReaderPart.{ReaderPart}
use Rattle.crn_proto.specs.declared.actor_parts.ProducerPart.{ProducerPart}
use Rattle.crn_proto.specs.Lawful.{own_cursor, Apart}
use Rattle.crn_proto.specs.Views.{waiting_parts}
use Rattle.crn_proto.proofs.Parts.{get_set_cases}
use Rattle.crn_proto.proofs.Views.{view_part, apart_from_counts, cut_each, each_append}
use Rattle.crn_steps.specs.declared.view.View.{View}
use Rattle.crn_steps.specs.Holds.{Holds, HasProducer, HasReader, parts_of_view}
use Rattle.crn_steps.specs.Plays.{Sat, by_producer, by_reader, publishing, taking, MadeByProducer, MadeByReader, cut_left, cut_right}
use Rattle.crn_steps.specs.Schedules.{TableState, opened_table, StepKind, LoadsGate, StoresWord, Publishes, StoresEnd, LoadsCursor, LoadsWord, StoresTaken, StoresLeft, becomes, OnWord, Picks, Cuts, move_as, Shows, IsPartOf, AllowedStepsAreMade}
use Rattle.crn_steps.proofs.Beginning.{begins, parts_cut}
use Rattle.crn_steps.proofs.Allowed.{got, producer_alone, reader_alone}

-- what stands in a list after a write, at the place written and elsewhere
get_set_here : {A : Type 0} (xs : List A) (i : ℕ) (x y : A) → slice_get xs i ≡ Some x → slice_get (set xs i y) i ≡ Some y
get_set_here xs i x y h = let within = slice_get_within xs i x h in slice_get-get_or (set xs i y) i y (omega (arith, length-set xs i y)) ∙ ap Some (get_or-set_same xs i y y within)

get_set_other : {A : Type 0} (xs : List A) (i k : ℕ) (y : A) → k ≢ i → slice_get (set xs i y) k ≡ slice_get xs k
get_set_other (z ∷ zs) zero zero y ne = absurd (ne refl)
get_set_other (z ∷ zs) (suc i) (suc k) y ne = get_set_other zs i k y (λ e. ne (ap suc e))
get_set_other zs i k y ne = refl

-- ---- one part among several

-- Where one actor's part becomes another, the parts are those of a ring in which that actor alone has moved.
parts_moved : (old new : Ring) (parts : List Part) (k : ℕ) (before after : Part) → Apart parts → slice_get parts k ≡ Some before → ((j : ℕ) (part : Part) → slice_get parts j ≡ Some part → IsPartOf old part)
    → IsPartOf new after → ((other : Part) → own_cursor other ≢ own_cursor before → IsPartOf old other → IsPartOf new other)
    → (j : ℕ) (part : Part) → slice_get (set parts k after) j ≡ Some part → IsPartOf new part
parts_moved old new parts k before after apart at all here others j part h = elim (get_set_cases parts k j after part h) [
  | inl mine ↦ subst (IsPartOf new) (sym mine.1) here
  | inr other ↦ others part (λ e. other.0 (apart j k part before other.1 at e)) (all j part other.1)
]

-- ---- a step on the table, as the move of the ring that it is

pub producer_moved : (spec : RingSpec) (s s' : TableState) (ring : Ring) (id : ℕ) (v : View) (move : ProducerMove) (i n found : ℕ) → Holds spec s → Shows spec s ring → get_elem? s.views id ≡ some v → HasProducer v
    → ProducerMay v.spec v.producer move → i ≡ producer_word v.spec v.producer move → found ≡ slice_index s.words i → n ≡ producer_leaves v.spec v.producer move found
    → s'.words ≡ slice_set s.words i n → s'.views ≡ slice_set s.views id (by_producer move found v) → (after : Ring) × LeadsTo ring (ByProducer move) after × Shows spec s' after
producer_moved spec s s' ring id v move i n found law shown at is may word finds leaves words views =
    let same : v.spec ≡ spec = law.same_ring id v at in
    let p = v.producer in
    let (k, mine, sets) = view_part parts_of_view s.views id v (OfProducer p) (got s.views id v at) (producer_alone v is) in
    let is_mine : ring.producer ≡ p = shown.parts k (OfProducer p) mine in
    let w = by_producer move found v in
    let after : Ring = record ring { words = s'.words; producer = w.producer } in
    let word' : i ≡ producer_word ring.spec ring.producer move = rw (shown.spec_of, is_mine, sym same) word in
    let finds' : found ≡ slice_index ring.words (producer_word ring.spec ring.producer move) = rw (sym shown.words, sym word') finds in
    let leaves' : n ≡ producer_leaves ring.spec ring.producer move found = rw (shown.spec_of, is_mine, sym same) leaves in
    let words' : s'.words ≡ slice_set ring.words (producer_word ring.spec ring.producer move) (producer_leaves ring.spec ring.producer move (slice_index ring.words (producer_word ring.spec ring.producer move))) =
    rw (sym finds', sym leaves', sym word', sym shown.words) words in
    let part' : w.producer ≡ producer_after ring.producer move (slice_index ring.words (producer_word ring.spec ring.producer move)) = rw (sym finds', is_mine) refl in (
      after,
      (rw (shown.spec_of, is_mine, sym same) may, λ j. record ring { words = words' j; producer = part' j }),
      record {
        words = refl;
        spec_of = shown.spec_of;
        parts = rw (views, sets w (OfProducer w.producer) (producer_alone w is))
            (parts_moved ring after (flat_map parts_of_view s.views) k (OfProducer p) (OfProducer w.producer) (apart_from_counts (flat_map parts_of_view s.views) law.rule.single) mine shown.parts refl (others after refl));
      },
    )
  where
    others : (after : Ring) → after.readers ≡ ring.readers → (other : Part) → own_cursor other ≢ 0 → IsPartOf ring other → IsPartOf after other
    others after e (OfProducer q) ne h = absurd (ne refl)
    others after e (OfReader r q) ne h = rw e h

pub reader_moved : (spec : RingSpec) (s s' : TableState) (ring : Ring) (id : ℕ) (v : View) (move : ReaderMove) (i n found : ℕ) → Holds spec s → Shows spec s ring → get_elem? s.views id ≡ some v → HasReader v
    → ReaderMay v.reader move → i ≡ reader_word v.spec v.number v.reader move → found ≡ slice_index s.words i → n ≡ reader_leaves v.reader move found
    → s'.words ≡ slice_set s.words i n → s'.views ≡ slice_set s.views id (by_reader move found v) → (after : Ring) × LeadsTo ring (ByReader v.number move) after × Shows spec s' after
reader_moved spec s s' ring id v move i n found law shown at is may word finds leaves words views =
    let same : v.spec ≡ spec = law.same_ring id v at in
    let r = v.number in
    let q = v.reader in
    let (k, mine, sets) = view_part parts_of_view s.views id v (OfReader r q) (got s.views id v at) (reader_alone v is) in
    let is_mine : slice_get ring.readers r ≡ Some q = shown.parts k (OfReader r q) mine in
    let w = by_reader move found v in
    let after : Ring = record ring { words = s'.words; readers = slice_set ring.readers r w.reader } in
    let word' : i ≡ reader_word ring.spec r q move = rw (shown.spec_of, sym same) word in
    let finds' : found ≡ slice_index ring.words (reader_word ring.spec r q move) = rw (sym shown.words, sym word') finds in
    let words' : s'.words ≡ slice_set ring.words (reader_word ring.spec r q move) (reader_leaves q move (slice_index ring.words (reader_word ring.spec r q move))) =
    rw (sym finds', sym leaves, sym word', sym shown.words) words in
    let readers' : slice_set ring.readers r w.reader ≡ slice_set ring.readers r (reader_after q move (slice_index ring.words (reader_word ring.spec r q move))) = rw (sym finds') refl in (
      after,
      (q, is_mine, may, λ j. record ring { words = words' j; readers = readers' j }),
      record {
        words = refl;
        spec_of = shown.spec_of;
        parts = rw (views, sets w (OfReader r w.reader) (reader_alone w is))
            (parts_moved ring after (flat_map parts_of_view s.views) k (OfReader r q) (OfReader r w.reader) (apart_from_counts (flat_map parts_of_view s.views) law.rule.single) mine shown.parts
            (get_set_here ring.readers r q w.reader is_mine) (others after w.reader refl refl));
      },
    )
  where
    others : (after : Ring) (mine : ReaderPart) → after.producer ≡ ring.producer → after.readers ≡ slice_set ring.readers v.number mine → (other : Part) → own_cursor other ≢ 1 + v.number → IsPartOf ring other → IsPartOf after other
    others after mine e f (OfProducer p) ne h = e ∙ h
    others after mine e f (OfReader r q) ne h = rw (f, get_set_other ring.readers v.number r mine (λ same. ne (ap (λ x. 1 + x) same))) h

-- what a step has told its seat is all that its move asks
by_the_producer : (spec : RingSpec) (s s' : TableState) (ring : Ring) (o : OnWord) (move : ProducerMove) (n : ℕ) (m : Sat) → Holds spec s → Shows spec s ring → (p : Picks spec s o s')
    → MadeByProducer move (step 0 o.i o.x 0 none) (o.view, o.carried) n m → m.0 ≡ p.view → n ≡ becomes o.kind o.x (slice_index s.words o.i)
    → producer_leaves o.view.spec o.view.producer move n ≡ producer_leaves o.view.spec o.view.producer move (slice_index s.words o.i)
    → by_producer move n o.view ≡ by_producer move (slice_index s.words o.i) o.view → (after : Ring) × LeadsTo ring (ByProducer move) after × Shows spec s' after
by_the_producer spec s s' ring o move n m law shown p made is value leaves heeds =
    let view : p.view ≡ by_producer move (slice_index s.words o.i) o.view = sym is ∙ ap (λ (z : Sat). z.0) made.view ∙ heeds in
    producer_moved spec s s' ring o.id o.view move o.i n (slice_index s.words o.i) law shown p.at made.seat made.may made.word refl (made.leaves ∙ leaves)
    (rw value (ap (λ (t : TableState). t.words) p.after)) (rw (sym view) (ap (λ (t : TableState). t.views) p.after))

by_a_reader : (spec : RingSpec) (s s' : TableState) (ring : Ring) (o : OnWord) (move : ReaderMove) (n : ℕ) (m : Sat) → Holds spec s → Shows spec s ring → (p : Picks spec s o s')
    → MadeByReader move (step 0 o.i o.x 0 none) (o.view, o.carried) n m → m.0 ≡ p.view → n ≡ becomes o.kind o.x (slice_index s.words o.i)
    → reader_leaves o.view.reader move n ≡ reader_leaves o.view.reader move (slice_index s.words o.i)
    → by_reader move n o.view ≡ by_reader move (slice_index s.words o.i) o.view → (after : Ring) × LeadsTo ring (ByReader o.view.number move) after × Shows spec s' after
by_a_reader spec s s' ring o move n m law shown p made is value leaves heeds =
    let view : p.view ≡ by_reader move (slice_index s.words o.i) o.view = sym is ∙ ap (λ (z : Sat). z.0) made.view ∙ heeds in
    reader_moved spec s s' ring o.id o.view move o.i n (slice_index s.words o.i) law shown p.at made.seat made.may made.word refl (made.leaves ∙ leaves)
    (rw value (ap (λ (t : TableState). t.words) p.after)) (rw (sym view) (ap (λ (t : TableState). t.views) p.after))

pub step_of_kind : (spec : RingSpec) (s s' : TableState) (ring : Ring) (kind : StepKind) (id i x : ℕ) (v : View) (carried : List (ℕ × Unit {0})) → Holds spec s → Shows spec s ring
    → Picks spec s record { kind = kind; id = id; view = v; carried = carried; i = i; x = x } s' → (after : Ring) × LeadsTo ring (move_as kind v i) after × Shows spec s' after
step_of_kind spec s s' ring LoadsGate id i x v carried law shown p = by_the_producer spec s s' ring _ (LoadGate (i - 1)) _ _ law shown p p.told.0 refl refl refl refl
step_of_kind spec s s' ring StoresWord id i x v carried law shown p = by_the_producer spec s s' ring _ StoreWord _ _ law shown p p.told refl refl refl refl
step_of_kind spec s s' ring Publishes id i x v carried law shown p = by_the_producer spec s s' ring _ (publishing v) _ _ law shown p p.told refl refl refl refl
step_of_kind spec s s' ring StoresEnd id i x v carried law shown p = by_the_producer spec s s' ring _ Finish _ _ law shown p p.told refl refl refl refl
step_of_kind spec s s' ring LoadsCursor id i x v carried law shown p = by_a_reader spec s s' ring _ LoadCursor _ _ law shown p p.told.0 refl refl refl refl
step_of_kind spec s s' ring LoadsWord id i x v carried law shown p = by_a_reader spec s s' ring _ LoadWord _ _ law shown p p.told.0 refl refl refl refl
step_of_kind spec s s' ring StoresTaken id i x v carried law shown p = by_a_reader spec s s' ring _ (taking v) _ _ law shown p p.told refl refl refl refl
step_of_kind spec s s' ring StoresLeft id i x v carried law shown p = by_a_reader spec s s' ring _ Leave _ _ law shown p p.told refl refl refl refl

-- ---- the cut of a seat, which is no move

pub cut_shows : (spec : RingSpec) (s s' : TableState) (ring : Ring) (id : ℕ) (v : View) → Shows spec s ring → Cuts spec s id v s' → Shows spec s' ring
cut_shows spec s s' ring id v shown c =
    let left = cut_left v in
    let right = cut_right v in
    let (lefts, rights) = cut_each parts_of_view (IsPartOf ring) s.views id v left right (got s.views id v c.at) (parts_cut v c.role c.waits) shown.parts in
    let all : flat_map parts_of_view (slice_set s.views id left ++ right ∷ []) ≡ flat_map parts_of_view (slice_set s.views id left) ++ parts_of_view right =
    flat_map-append parts_of_view (slice_set s.views id left) (right ∷ []) ∙ ap (λ z. flat_map parts_of_view (slice_set s.views id left) ++ z) (append-nil (parts_of_view right)) in record {
      words = ap (λ (t : TableState). t.words) c.after ∙ shown.words;
      spec_of = shown.spec_of;
      parts = rw (ap (λ (t : TableState). t.views) c.after, all) (each_append parts_of_view (IsPartOf ring) (flat_map parts_of_view (slice_set s.views id left)) (parts_of_view right) lefts rights);
    }

-- ---- the table as a ring is opened

waiting_shown : (ring : Ring) (p : ProducerPart) (q : ReaderPart) (r count : ℕ) → ring.producer ≡ p → ((k : ℕ) → r ≤ k → k < r + count → slice_get ring.readers k ≡ Some q)
    → (j : ℕ) (part : Part) → slice_get (waiting_parts p q r count) j ≡ Some part → IsPartOf ring part
waiting_shown ring p q r zero is all zero part h = let same : OfProducer p ≡ part = cc in subst (IsPartOf ring) same is
waiting_shown ring p q r zero is all (suc j) part h = cc
waiting_shown ring p q r (suc count) is all zero part h = let same : OfReader r q ≡ part = cc in subst (IsPartOf ring) same (all r (omega arith) (omega arith))
waiting_shown ring p q r (suc count) is all (suc j) part h = waiting_shown ring p q (suc r) count is (λ k low high. all k (omega arith) (omega arith)) j part h

replicate_at : {A : Type 0} (n k : ℕ) (x : A) → k < n → slice_get (replicate n x) k ≡ Some x
replicate_at n k x h = slice_get-get_or (replicate n x) k x (omega (arith, length-replicate n x)) ∙ ap Some (get_or-replicate n k x x h)

pub open_shown : (spec : RingSpec) → Shows spec (opened_table spec) (open_ring spec)
open_shown spec = record {
  words = refl;
  spec_of = refl;
  parts = rw append-nil (waiting_shown (open_ring spec) (open_producer spec) (open_reader spec) 0 (spec.readers - 0) refl (λ k low high. replicate_at spec.readers k (open_reader spec) (omega arith)));
}

pub allowed_steps_are_made : AllowedStepsAreMade
allowed_steps_are_made = (
  begins,
  λ spec s o law homes at low allowed. let (view, act, valid, keeps, told) = allowed s law homes at low in (
    stepped s o.i (becomes o.kind o.x (slice_index s.words o.i)) o.id o.carried view act,
    record {
      at = at;
      view = view;
      act = act;
      valid = valid;
      after = refl;
      keeps = keeps;
      told = told;
    },
  ),
  λ spec s id v law at role waits splits. (
    record { words = s.words; homes = s.homes; views = slice_set s.views id (cut_left v) ++ cut_right v ∷ [] },
    record {
      at = at;
      role = role;
      waits = waits;
      after = refl;
      keeps = splits s law at;
    },
  ),
)
