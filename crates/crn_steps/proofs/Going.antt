-- The steps of a ring's table are moves of actors that go on.
use Rattle.std.proofs.Common.{◌≡◌, ℕ, suc, zero, ◌+◌, ◌-◌, ◌/◌, ◌<◌, ◌≤◌, ◌≢◌, ◌⊎◌, Bool, true, false, List, [], ◌∷◌, ◌++◌, set, Some, inl, inr, refl, sym, ap, ◌∙◌, subst, arith, slice_get, slice_index, ◌==◌, ◌||◌, nat_lt, if◌then◌else◌, length, flat_map, eq-eqb, ne_eqb}
use Rattle.std.proofs.lemmas.Option.{get_or_from_slice_get}
use Rattle.crn_cipher.specs.declared.TheConstants.{BLOCK_WORDS}
use Rattle.crn_proto.specs.declared.spec.RingSpec.{RingSpec}
use Rattle.crn_proto.specs.declared.actor_parts.Part.TheVariants.{OfProducer, OfReader}
use Rattle.crn_proto.specs.declared.actor_parts.ProducerPart.{ProducerPart}
use Rattle.crn_proto.specs.declared.actor_parts.ReaderPart.{ReaderPart}
use Rattle.crn_proto.specs.Ring.{left_mark, Ring, Move, ProducerMove, LoadGate, StoreWord, Finish, ReaderMove, LoadCursor, LoadWord, Leave, ByProducer, ByReader, open_ring, open_reader}
use Rattle.crn_proto.specs.Traces.{reader_at}
use Rattle.crn_proto.specs.Views.{parts_named, waiting_parts}
use Rattle.crn_proto.specs.Batches.{Watch, open_watch, watch_after, GoingOn, GoesOnTo}
use Rattle.crn_proto.proofs.Parts.{get_set_cases}
use Rattle.crn_proto.proofs.Schedules.{shows_a_broadcast}
use Rattle.crn_proto.proofs.Tracing.{runs_of}
use Rattle.crn_proto.proofs.Views.{counted, parts_append, view_part}
use Rattle.crn_steps.specs.declared.view.Role.{Role}
use Rattle.crn_steps.specs.declared.view.Role.TheVariants.{Producer, Reader}
use Rattle.crn_steps.specs.declared.view.View.{View}
use Rattle.crn_steps.specs.Holds.{Holds, HasProducer, HasReader, opened, parts_of_view}
use Rattle.crn_steps.specs.Plays.{Sat, by_producer, by_reader, publishing, taking, cut_left, cut_right}
use Rattle.crn_steps.specs.Schedules.{TableState, opened_table, StepKind, LoadsGate, StoresWord, Publishes, StoresEnd, LoadsCursor, LoadsWord, StoresTaken, StoresLeft, OnWord, TableStep, Made, Cut, Picks, MakesAll, move_as, moves_of, Shows, IsInBatch, AreInBatches, StepsAreARun, StepsGoOn, BatchesAreBounded}
use Rattle.crn_steps.proofs.Allowed.{got, own_law, producer_alone, reader_alone}
use Rattle.crn_steps.proofs.Beginning.{begins}
use Rattle.crn_steps.proofs.Lists.{last_cases}
use Rattle.crn_steps.proofs.Opened.{waiting_reader, waiting_producer}
use Rattle.crn_steps.proofs.Schedules.{step_of_kind, cut_shows, open_shown}

-- ---- which actors a view names

producer_named : (v : View) → v.role ≡ Producer → 1 ≤ parts_named 0 (parts_of_view v)
producer_named v is =
    let count = v.spec.readers - v.number in
    rw is (counted (waiting_parts v.producer v.reader v.number count) count 0 (OfProducer v.producer) (waiting_producer v.producer v.reader v.number count) refl)

waiting_named : (v : View) (r : ℕ) → v.role ≡ Producer → v.number ≤ r → r < v.spec.readers → 1 ≤ parts_named (1 + r) (parts_of_view v)
waiting_named v r is low high =
    let count = v.spec.readers - v.number in
    let k = r - v.number in
    let same : v.number + (r - v.number) ≡ r = omega arith in
    rw is (counted (waiting_parts v.producer v.reader v.number count) k (1 + r) (OfReader (v.number + k) v.reader) (waiting_reader v.producer v.reader v.number count k (omega arith)) (ap (λ (z : ℕ). 1 + z) same))

reader_named : (v : View) → HasReader v → 1 ≤ parts_named (1 + v.number) (parts_of_view v)
reader_named v is = rw is (counted (OfReader v.number v.reader ∷ []) 0 (1 + v.number) (OfReader v.number v.reader) refl refl)

abbrev Single : List View → Type 0
Single views = (a : ℕ) → parts_named a (flat_map parts_of_view views) ≤ 1

named_in : (views : List View) (k a : ℕ) (v : View) → slice_get views k ≡ Some v → 1 ≤ parts_named a (parts_of_view v) → 1 ≤ parts_named a (flat_map parts_of_view views)
named_in [] k a v h named = cc
named_in (x ∷ xs) zero a v h named = let same : x ≡ v = cc in rw same (simp parts_append (omega arith))
named_in (x ∷ xs) (suc k) a v h named = let more = named_in xs k a v h named in simp parts_append (omega arith)

-- no actor is named in the first view and in another
few_of_both : (x : View) (xs : List View) (a : ℕ) → Single (x ∷ xs) → parts_named a (parts_of_view x) + parts_named a (flat_map parts_of_view xs) ≤ 1
few_of_both x xs a few = rw parts_append at (few a)

single_rest : (x : View) (xs : List View) → Single (x ∷ xs) → Single xs
single_rest x xs few a = let both = few_of_both x xs a few in omega arith

not_both : (x : View) (xs : List View) (a : ℕ) → Single (x ∷ xs) → 1 ≤ parts_named a (parts_of_view x) → 1 ≤ parts_named a (flat_map parts_of_view xs) → ⊥
not_both x xs a few here there = let both = few_of_both x xs a few in omega arith

-- two views that name one actor are of one seat
one_seat : (views : List View) (j k a : ℕ) (u v : View) → Single views → slice_get views j ≡ Some u → slice_get views k ≡ Some v → 1 ≤ parts_named a (parts_of_view u) → 1 ≤ parts_named a (parts_of_view v) → j ≡ k
one_seat [] j k a u v few h l named named' = cc
one_seat (x ∷ xs) zero zero a u v few h l named named' = refl
one_seat (x ∷ xs) zero (suc k) a u v few h l named named' = let same : x ≡ u = cc in absurd (not_both x xs a few (rw same named) (named_in xs k a v l named'))
one_seat (x ∷ xs) (suc j) zero a u v few h l named named' = let same : x ≡ v = cc in absurd (not_both x xs a few (rw same named') (named_in xs j a u h named))
one_seat (x ∷ xs) (suc j) (suc k) a u v few h l named named' = ap suc (one_seat xs j k a u v (single_rest x xs few) h l named named')

-- ---- how far the actors of the seats have looked

abbrev WatchedAs : Watch → View → Role → Type 0
WatchedAs w v Producer = (w.passed ≡ v.passed) × ((r : ℕ) → v.number ≤ r → r < v.spec.readers → w.looked r ≡ v.looked)
WatchedAs w v Reader = w.looked v.number ≡ v.looked

-- each view knows how far its actors have looked
abbrev Watched : Watch → List View → Type 0
Watched w views = (k : ℕ) (v : View) → slice_get views k ≡ Some v → WatchedAs w v v.role

module _ (w w' : Watch) (views : List View) (id : ℕ) (v : View) (few : Single views) (watched : Watched w views) (at : slice_get views id ≡ Some v) where
  by_the_producer : (new : View) → HasProducer v → new.role ≡ v.role → new.number ≡ v.number → new.spec ≡ v.spec → w'.passed ≡ new.passed → ((r : ℕ) → w'.looked r ≡ w.looked r) → Watched w' (set views id new)
  by_the_producer new is role number same passed looked k u h = elim (get_set_cases views id k new u h) [
    | inl mine ↦ subst (λ (z : View). WatchedAs w' z z.role) (sym mine.1) (subst (WatchedAs w' new) (sym (role ∙ is.0)) (passed, λ r low high. absurd (let all = is.1 in let readers = ap (λ (z : RingSpec). z.readers) same in omega arith)))
    | inr other ↦ others k u u.role refl other.0 other.1 (watched k u other.1)
  ]
    where
      others : (k : ℕ) (u : View) (kind : Role) → u.role ≡ kind → k ≢ id → slice_get views k ≡ Some u → WatchedAs w u kind → WatchedAs w' u kind
      others k u Producer is_one ne here old = absurd (ne (one_seat views k id 0 u v few here at (producer_named u is_one) (producer_named v is.0)))
      others k u Reader is_one ne here old = looked u.number ∙ old

  by_a_reader : (new : View) → HasReader v → new.role ≡ v.role → new.number ≡ v.number → w'.passed ≡ w.passed → w'.looked v.number ≡ new.looked → ((r : ℕ) → r ≢ v.number → w'.looked r ≡ w.looked r) → Watched w' (set views id new)
  by_a_reader new is role number passed mine looked k u h = elim (get_set_cases views id k new u h) [
    | inl same ↦ subst (λ (z : View). WatchedAs w' z z.role) (sym same.1) (subst (WatchedAs w' new) (sym (role ∙ is)) (ap w'.looked number ∙ mine))
    | inr other ↦ others k u u.role refl other.0 other.1 (watched k u other.1)
  ]
    where
      others : (k : ℕ) (u : View) (kind : Role) → u.role ≡ kind → k ≢ id → slice_get views k ≡ Some u → WatchedAs w u kind → WatchedAs w' u kind
      others k u Producer is_one ne here old = (
        passed ∙ old.0,
        λ r low high. looked r
            (λ e. ne (one_seat views k id (1 + v.number) u v few here at (subst (λ (z : ℕ). 1 ≤ parts_named (1 + z) (parts_of_view u)) e (waiting_named u r is_one low high)) (reader_named v is)))
            ∙ old.1 r low high,
      )
      others k u Reader is_one ne here old =
          looked u.number (λ e. ne (one_seat views k id (1 + v.number) u v few here at (subst (λ (z : ℕ). 1 ≤ parts_named (1 + z) (parts_of_view u)) e (reader_named u is_one)) (reader_named v is))) ∙ old

cut_watched : (w : Watch) (views : List View) (id : ℕ) (v : View) → Watched w views → slice_get views id ≡ Some v → v.role ≡ Producer → v.number < v.spec.readers → Watched w (set views id (cut_left v) ++ cut_right v ∷ [])
cut_watched w views id v watched at role waits k u h =
    let old : WatchedAs w v Producer = subst (WatchedAs w v) role (watched id v at) in
    elim (last_cases (set views id (cut_left v)) (cut_right v) u k h) [
      | inl left ↦ elim (get_set_cases views id k (cut_left v) u left) [
        | inl mine ↦ subst (λ (z : View). WatchedAs w z z.role) (sym mine.1) (subst (WatchedAs w (cut_left v)) (sym role) (old.0, λ r low high. old.1 r (let next : v.number + 1 ≤ r = low in omega arith) high))
        | inr other ↦ watched k u other.1
      ]
      | inr right ↦ subst (λ (z : View). WatchedAs w z z.role) (sym right.1) (old.1 v.number (omega arith) waits)
    ]

-- ---- a step on a word

module _ (spec : RingSpec) (s s' : TableState) (ring : Ring) (w : Watch) (o : OnWord) (law : Holds spec s) (shown : Shows spec s ring) (watched : Watched w s.views) (p : Picks spec s o s') where
  here : slice_get s.views o.id ≡ Some o.view
  here = got s.views o.id o.view p.at

  views_after : (new : View) → p.view ≡ new → s'.views ≡ set s.views o.id new
  views_after new is = ap (λ (t : TableState). t.views) p.after ∙ ap (λ (z : View). set s.views o.id z) is

  -- what the seat knows of its actor is the ring's
  producer_is : HasProducer o.view → (ring.producer ≡ o.view.producer) × (ring.spec ≡ o.view.spec) × (w.passed ≡ o.view.passed)
  producer_is is =
      let (k, mine, sets) = view_part parts_of_view s.views o.id o.view (OfProducer o.view.producer) here (producer_alone o.view is) in
      let old : WatchedAs w o.view Producer = subst (WatchedAs w o.view) is.0 (watched o.id o.view here) in
      (shown.parts k (OfProducer o.view.producer) mine, shown.spec_of ∙ sym (law.same_ring o.id o.view p.at), old.0)

  reader_is : HasReader o.view → (reader_at ring o.view.number ≡ o.view.reader) × (w.looked o.view.number ≡ o.view.looked)
  reader_is is =
      let (k, mine, sets) = view_part parts_of_view s.views o.id o.view (OfReader o.view.number o.view.reader) here (reader_alone o.view is) in (
        get_or_from_slice_get ring.readers o.view.number o.view.reader (open_reader ring.spec) (shown.parts k (OfReader o.view.number o.view.reader) mine),
        subst (WatchedAs w o.view) is (watched o.id o.view here),
      )

  producer_looks : (move : ProducerMove) (n : ℕ) (w' : Watch) → HasProducer o.view → p.view ≡ by_producer move n o.view → w'.passed ≡ (by_producer move n o.view).passed → ((r : ℕ) → w'.looked r ≡ w.looked r) → Watched w' s'.views
  producer_looks move n w' is view passed looked = let new = by_producer move n o.view in
      subst (Watched w') (sym (views_after new view)) (by_the_producer w w' s.views o.id o.view law.rule.single watched here new is refl refl refl passed looked)

  reader_looks : (move : ReaderMove) (n : ℕ) (w' : Watch) → HasReader o.view → p.view ≡ by_reader move n o.view → w'.passed ≡ w.passed → w'.looked o.view.number ≡ (by_reader move n o.view).looked
      → ((r : ℕ) → r ≢ o.view.number → w'.looked r ≡ w.looked r) → Watched w' s'.views
  reader_looks move n w' is view passed mine looked = let new = by_reader move n o.view in
      subst (Watched w') (sym (views_after new view)) (by_a_reader w w' s.views o.id o.view law.rule.single watched here new is refl refl passed mine looked)

may_look : (looked : Bool) (seen taken : ℕ) → (looked ≡ true → seen ≤ taken) → (looked ≡ false) ⊎ (seen ≤ taken)
may_look true seen taken all = inr (all refl)
may_look false seen taken all = inl refl

-- The actor of the step goes on, and the views know afterwards how far their actors have looked.
abbrev Goes : ℕ → Ring → Watch → TableState → Move → Type 0
Goes b ring w s' move = GoingOn b ring w move × Watched (watch_after ring w move) s'.views

step_goes_on : (spec : RingSpec) (b : ℕ) (s s' : TableState) (ring : Ring) (w : Watch) (kind : StepKind) (id i x : ℕ) (v : View) (carried : List (ℕ × Unit {0})) → Holds spec s → Shows spec s ring → Watched w s.views → IsInBatch b kind v
    → Picks spec s record { kind = kind; id = id; view = v; carried = carried; i = i; x = x } s' → Goes b ring w s' (move_as kind v i)
step_goes_on spec b s s' ring w LoadsGate id i x v carried law shown watched few p =
    let made = p.told.0 in
    let (mine, same, passed) = producer_is spec s s' ring w _ law shown watched p made.seat in
    let on = made.goes_on in
    let count : slice_index ring.words (1 + (i - 1)) ≡ slice_index s.words i = λ j. slice_index (sym shown.words j) (sym made.word j) in (
      (
        ap (λ (z : ProducerPart). z.stored) mine ∙ on.0,
        (let published = ap (λ (z : ProducerPart). z.published) mine in let total = ap (λ (z : RingSpec). z.id.total) same in let more = on.1 in omega arith),
        on.2 ∙ sym passed,
      ),
      producer_looks spec s s' ring w _ law shown watched p (LoadGate (i - 1)) (slice_index s.words i) (watch_after ring w (ByProducer (LoadGate (i - 1)))) made.seat (ap (λ (z : Sat). z.0) made.view)
          (λ j. if (count j == left_mark) || nat_lt (mine j).published (count j + (same j).size) then passed j + 1 else 0) (λ r. refl),
    )
step_goes_on spec b s s' ring w StoresWord id i x v carried law shown watched few p =
    let made = p.told in
    let (mine, same, passed) = producer_is spec s s' ring w _ law shown watched p made.seat in
    let stored : ring.producer.stored ≡ v.producer.stored = ap (λ (z : ProducerPart). z.stored) mine in
    let readers : ring.spec.readers ≡ v.spec.readers = ap (λ (z : RingSpec). z.readers) same in (
      (
        omega arith,
        elim made.goes_on [
          | inl some ↦ inl (omega arith)
          | inr at ↦ inr (elim at [ inl none ↦ inl (passed ∙ none) | inr all ↦ inr (passed ∙ all ∙ sym readers) ])
        ],
      ),
      producer_looks spec s s' ring w _ law shown watched p StoreWord x w made.seat (ap (λ (z : Sat). z.0) made.view) passed (λ r. refl),
    )
step_goes_on spec b s s' ring w Publishes id i x v carried law shown watched few p =
    let made = p.told in
    (tt, producer_looks spec s s' ring w _ law shown watched p (publishing v) x (watch_after ring w (ByProducer (publishing v))) made.seat (ap (λ (z : Sat). z.0) made.view) refl (λ r. refl))
step_goes_on spec b s s' ring w StoresEnd id i x v carried law shown watched few p =
    let made = p.told in
    let (mine, same, passed) = producer_is spec s s' ring w _ law shown watched p made.seat in
    (tt, producer_looks spec s s' ring w _ law shown watched p Finish x w made.seat (ap (λ (z : Sat). z.0) made.view) passed (λ r. refl))
step_goes_on spec b s s' ring w LoadsCursor id i x v carried law shown watched few p =
    let made = p.told.0 in
    let (mine, looked) = reader_is spec s s' ring w _ law shown watched p made.seat in (
      elim (may_look v.looked v.reader.seen v.reader.taken made.goes_on) [
        | inl fresh ↦ inl (looked ∙ fresh)
        | inr all ↦ inr (let seen = ap (λ (z : ReaderPart). z.seen) mine in let taken = ap (λ (z : ReaderPart). z.taken) mine in omega arith)
      ],
      reader_looks spec s s' ring w _ law shown watched p LoadCursor (slice_index s.words i) (watch_after ring w (ByReader v.number LoadCursor)) made.seat (ap (λ (z : Sat). z.0) made.view) refl
          (rw (eq-eqb v.number v.number refl) refl) (λ r ne. rw (ne_eqb r v.number ne) refl),
    )
step_goes_on spec b s s' ring w LoadsWord id i x v carried law shown watched few p =
    let made = p.told.0 in
    let (mine, looked) = reader_is spec s s' ring w _ law shown watched p made.seat in (
      (let read = ap (λ (z : ReaderPart). length z.read) mine in omega arith),
      reader_looks spec s s' ring w _ law shown watched p LoadWord (slice_index s.words i) w made.seat (ap (λ (z : Sat). z.0) made.view) refl looked (λ r ne. refl),
    )
step_goes_on spec b s s' ring w StoresTaken id i x v carried law shown watched few p =
    let made = p.told in (
      tt,
      reader_looks spec s s' ring w _ law shown watched p (taking v) x (watch_after ring w (ByReader v.number (taking v))) made.seat (ap (λ (z : Sat). z.0) made.view) refl
          (rw (eq-eqb v.number v.number refl) refl) (λ r ne. rw (ne_eqb r v.number ne) refl),
    )
step_goes_on spec b s s' ring w StoresLeft id i x v carried law shown watched few p =
    let made = p.told in
    let (mine, looked) = reader_is spec s s' ring w _ law shown watched p made.seat in
    (tt, reader_looks spec s s' ring w _ law shown watched p Leave x w made.seat (ap (λ (z : Sat). z.0) made.view) refl looked (λ r ne. refl))

-- ---- all steps

-- The table shows a ring to which actors that go on have led.
pub record Stands (spec : RingSpec) (b : ℕ) (old : Ring) (w : Watch) (moves : List Move) (s : TableState) : Type 0 where
  pub ring : Ring
  pub watch : Watch
  pub goes_on : GoesOnTo b old w moves ring watch
  pub shown : Shows spec s ring
  pub law : Holds spec s
  pub watched : Watched watch s.views

stands_from : (spec : RingSpec) (b : ℕ) (steps : List TableStep) (s s' : TableState) (ring : Ring) (w : Watch) → Holds spec s → Shows spec s ring → Watched w s.views → AreInBatches b steps → MakesAll spec s steps s'
    → Stands spec b ring w (moves_of steps) s'
stands_from spec b [] s s' ring w law shown watched few made =
    rw made (record { ring = ring; watch = w; goes_on = (refl, refl); shown = shown; law = law; watched = watched })
stands_from spec b (Made o ∷ steps) s s' ring w law shown watched few (mid, p, rest) =
    let (after, move, shown') = step_of_kind spec s mid ring o.kind o.id o.i o.x o.view o.carried law shown p in
    let goes = step_goes_on spec b s mid ring w o.kind o.id o.i o.x o.view o.carried law shown watched few.0 p in
    let last = stands_from spec b steps mid s' after (watch_after ring w (move_as o.kind o.view o.i)) p.keeps shown' goes.1 few.1 rest in
    record { ring = last.ring; watch = last.watch; goes_on = (after, move, goes.0, last.goes_on); shown = last.shown; law = last.law; watched = last.watched }
stands_from spec b (Cut id v ∷ steps) s s' ring w law shown watched few (mid, c, rest) =
    let cut : Watched w mid.views = subst (Watched w) (sym (ap (λ (t : TableState). t.views) c.after)) (cut_watched w s.views id v watched (got s.views id v c.at) c.role c.waits) in
    stands_from spec b steps mid s' ring w c.keeps (cut_shows spec s mid ring id v shown c) cut few rest

-- as a ring is opened nobody has looked
open_watched : (spec : RingSpec) → Watched open_watch (opened spec 0 ∷ [])
open_watched spec zero v h = let same : opened spec 0 ≡ v = cc in subst (λ (z : View). WatchedAs open_watch z z.role) same (refl, λ r low high. refl)
open_watched spec (suc k) v h = cc

pub steps_go_on : StepsGoOn
steps_go_on spec b steps later s t ring made made_later few few_later =
    let first = stands_from spec b steps (opened_table spec) s (open_ring spec) open_watch (begins spec ring) (open_shown spec) (open_watched spec) few made in
    let last = stands_from spec b later s t first.ring first.watch first.law first.shown first.watched few_later made_later in record {
      ring = first.ring;
      watch = first.watch;
      goes_on = first.goes_on;
      shown = first.shown;
      last = last.ring;
      last_watch = last.watch;
      goes_further = last.goes_on;
      last_shown = last.shown;
    }

-- ---- no batch has more blocks than the stream

step_in_batch : (spec : RingSpec) (b : ℕ) (s s' : TableState) (kind : StepKind) (id i x : ℕ) (v : View) (carried : List (ℕ × Unit {0})) → spec.id.total ≤ b → Holds spec s
    → Picks spec s record { kind = kind; id = id; view = v; carried = carried; i = i; x = x } s' → IsInBatch b kind v
step_in_batch spec b s s' StoresWord id i x v carried all law p =
    let more : v.producer.published + v.producer.stored / BLOCK_WORDS < v.spec.id.total = p.told.may.1 in
    let total = ap (λ (z : RingSpec). z.id.total) (law.same_ring id v p.at) in
    omega arith
step_in_batch spec b s s' LoadsWord id i x v carried all law p =
    let made = p.told.0 in
    let own = own_law spec s id v (OfReader v.number v.reader) law p.at (reader_alone v made.seat) in
    let more : v.reader.taken + length v.reader.read / BLOCK_WORDS < v.reader.seen = made.may.1 in
    let seen = (own.here made.may.0).seen_published in
    omega arith
step_in_batch spec b s s' kind id i x v carried all law p = tt

in_batches_from : (spec : RingSpec) (b : ℕ) (steps : List TableStep) (s s' : TableState) → spec.id.total ≤ b → Holds spec s → MakesAll spec s steps s' → AreInBatches b steps
in_batches_from spec b [] s s' all law made = tt
in_batches_from spec b (Made o ∷ steps) s s' all law (mid, p, rest) = (step_in_batch spec b s mid o.kind o.id o.i o.x o.view o.carried all law p, in_batches_from spec b steps mid s' all p.keeps rest)
in_batches_from spec b (Cut id v ∷ steps) s s' all law (mid, c, rest) = in_batches_from spec b steps mid s' all c.keeps rest

pub batches_are_bounded : BatchesAreBounded
batches_are_bounded spec b steps s ring made all = in_batches_from spec b steps (opened_table spec) s all (begins spec ring) made

-- so whatever steps a table makes are a run
pub steps_are_a_run : StepsAreARun
steps_are_a_run spec steps s ring made =
    let total = spec.id.total in
    let few = batches_are_bounded spec total steps s ring made (omega arith) in
    let stands = stands_from spec total steps (opened_table spec) s (open_ring spec) open_watch (begins spec ring) (open_shown spec) (open_watched spec) few made in
    let run = runs_of total (moves_of steps) (open_ring spec) stands.ring open_watch stands.watch stands.goes_on in record {
      ring = stands.ring;
      run = run;
      shown = stands.shown;
      broadcast = shows_a_broadcast spec (moves_of steps) stands.ring ring run;
    }
