-- The machine's steps are moves of the ring, by actors that go on with one block at a time.
use Rattle.std.proofs.Common.{◌≡◌, ℕ, suc, ◌+◌, ◌*◌, ◌/◌, ◌%◌, ◌<◌, ◌≤◌, ◌≢◌, ◌||◌, ◌⊎◌, not, Bool, true, false, List, [], ◌∷◌, ◌++◌, length, replicate, set, Option, Some, None, inl, inr, refl, sym, ap, subst, ◌∙◌, arith, get_or-set_same, get_or-set_other, slice_get, slice_index, slice_index_or, ◌==◌, nat_lt, All}
use Rattle.crn_cipher.specs.declared.TheConstants.{BLOCK_WORDS}
use Rattle.std.proofs.lemmas.Bool.{cases_eq, true≢false, cond_both, eq-eqb, eqb-true, eqb-false, ne_eqb, ltb-true, ltb-false, or_parts, not-true, not-false}
use Rattle.std.proofs.lemmas.List.{length-set, set-get_or, length-replicate, get_or-replicate, length_push}
use Rattle.std.proofs.lemmas.List.Elements.{All-head, All-tail}
use Rattle.std.proofs.lemmas.Option.{slice_get-get_or}
use Rattle.crn_proto.specs.declared.spec.RingSpec.{RingSpec}
use Rattle.crn_proto.specs.declared.schedule.Actor.{Actor}
use Rattle.crn_proto.specs.declared.schedule.Actor.TheVariants.{Producer as ProducerActs, Finish as FinishActs, Reader as ReaderActs, Leave as LeaveActs}
use Rattle.crn_proto.specs.declared.schedule.Step.{Step as Answer}
use Rattle.crn_proto.specs.declared.machine.Taker.{Taker}
use Rattle.crn_proto.specs.Ring.{place, word_count, IsRing, Producer, Reader, ProducerMove, ReaderMove, Ring, Move, ByProducer, ByReader, LoadGate, StoreWord, Publish, Finish, LoadCursor, LoadWord, Take, Leave, LeadsTo, Runs, ProducerMay, ReaderMay, PassesGates, producer_word, producer_after, reader_word, reader_leaves, reader_after, storing, open_reader, reading}
use Rattle.crn_proto.specs.Machine.{MachineState, Outcome, IsActor, machine_of, machine_after, machine_answers, machine_steps, open_machine, open_taker, taker_at, producer_steps, finish_steps, reader_steps, leave_steps, ends, loads_gate, stores_word, publishes, loads_cursor, loads_word, takes, leaves}
use Rattle.crn_proto.specs.Traces.{kind_of, reader_at, IsMoveOf, IsAnswer, Traces, Matches, EveryReplayIsARun}
use Rattle.crn_proto.specs.Progress.{machine_mark, has_finished, is_turn_of}
use Rattle.crn_proto.specs.Batches.{Watch, watch_after, GoingOn, GoesOnTo, ring_mark}
use Rattle.crn_proto.proofs.Places.{place_within}
use Rattle.crn_proto.proofs.Runs.{producer_law}
use Rattle.crn_proto.proofs.Replays.{same_spec as steps_same}
use Rattle.crn_proto.proofs.Pace.{Onward}
use Rattle.crn_proto.proofs.Batches.{Fits, onward_self, step_leads, after_producer, open_fits, watch_by_reader, looked_by_others}

-- ---- a ring beside a machine

-- the ring's state over a machine's
abbrev pub ring_of : MachineState → List ℕ → List (ℕ × ℕ) → ℕ → List Reader → Ring
ring_of m gates loads steps readers = record {
  spec = m.spec;
  words = m.words;
  producer = record { published = m.published; ended = m.ended; stored = m.stored; gates = gates; loads = loads; steps = steps };
  readers = readers;
}

-- how far the machine's actors have looked around
abbrev pub watch_of : MachineState → (ℕ → Bool) → Watch
watch_of m looked = record { passed = m.passed; looked = looked }

pub record TakerTracks (t : Taker) (q : Reader) (looked : Bool) : Type 0 where
  pub taken : t.taken ≡ q.taken
  pub left : t.left ≡ q.left
  pub seen_end : t.seen_end ≡ q.seen_end
  pub read : t.read ≡ length q.read
  pub reads : t.reading ≡ true → q.taken < q.seen
  pub rests : t.reading ≡ false → (t.read ≡ 0) × ((looked ≡ false) ⊎ (q.seen ≤ q.taken))

-- what the machine does not keep, and how it stands to the rest
pub record Beside (m : MachineState) : Type 0 where
  pub gates : List ℕ
  pub loads : List (ℕ × ℕ)
  pub steps : ℕ
  pub readers : List Reader
  pub looked : ℕ → Bool
  pub fits : Fits m.spec 1 (ring_of m gates loads steps readers) (watch_of m looked)
  pub stored_passed : 0 < m.stored → m.passed ≡ m.spec.readers
  pub taker_count : length m.takers ≡ m.spec.readers
  pub each : (r : ℕ) → r < m.spec.readers → TakerTracks (taker_at m r) (slice_index_or readers r (open_reader m.spec)) (looked r)

abbrev pub ring_by : (m : MachineState) → Beside m → Ring
ring_by m at = ring_of m at.gates at.loads at.steps at.readers

abbrev pub watch_by : (m : MachineState) → Beside m → Watch
watch_by m at = watch_of m at.looked

-- ---- one step

-- the move made, if any, is one of an actor that goes on
abbrev pub Goes : Ring → Watch → List Move → Watch → Type 0
Goes s w [] v = v ≡ w
Goes s w (move ∷ moves) v = GoingOn 1 s w move × (v ≡ watch_after s w move)

-- actor a has finished, or the turn is none of its
abbrev pub IsOver : MachineState → Actor → ℕ → Type 0
IsOver m who a = (has_finished (machine_mark m) a ≡ true) ⊎ (is_turn_of a who ≡ false)

-- a step leads on, by a move or none
pub record Advances (m : MachineState) (at : Beside m) (who : Actor) (out : Outcome) : Type 0 where
  pub next : Beside out.0
  pub made : List Move
  pub took : IsAnswer who (ring_by m at) made out.1 (ring_by out.0 next)
  pub goes : Goes (ring_by m at) (watch_by m at) made (watch_by out.0 next)
  pub onward : Onward m.spec (ring_mark (ring_by m at)) (ring_mark (ring_by out.0 next))
  -- an actor whose turn has no step has finished
  pub idle : out.1 ≡ None → (a : ℕ) → IsOver m who a

module _ (m : MachineState) (ring : IsRing m.spec) (at : Beside m) where
  abbrev s : Ring
  s = ring_by m at

  abbrev w : Watch
  w = watch_by m at

  -- what stands where something was stored
  stored_at : (i v : ℕ) → i < word_count m.spec → v ≡ slice_index (set m.words i v) i
  stored_at i v h = let n : length m.words ≡ word_count m.spec = at.fits.law.of_words.sized in let l : i < length m.words = omega arith in sym (get_or-set_same m.words i v 0 l)

  stays : (who : Actor) → ((a : ℕ) → IsOver m who a) → Advances m at who (m, None)
  stays who over = record { next = at; made = []; took = (refl, refl); goes = refl; onward = onward_self m.spec (ring_mark s); idle = λ none. over }

  over : (b : ℕ) → has_finished (machine_mark m) b ≡ true → (a : ℕ) → (has_finished (machine_mark m) a ≡ true) ⊎ ((b == a) ≡ false)
  over b e a = elim (cases_eq b a) [ inl is ↦ inl (subst (λ x. has_finished (machine_mark m) x ≡ true) is e) | inr ne ↦ inr (ne_eqb b a ne) ]

  -- ---- the producer

  abbrev moved : ProducerMove → Producer
  moved p = producer_after s.producer p (slice_index m.words (producer_word m.spec s.producer p))

  by_producer : (who : Actor) (p : ProducerMove) (words : List ℕ) (published : ℕ) (ended : Bool) (passed stored : ℕ) (answer : Answer)
      → IsMoveOf who (ByProducer p) → ProducerMay m.spec s.producer p → GoingOn 1 s w (ByProducer p)
      → ring_of (machine_of m.spec words published ended passed stored m.takers) (moved p).gates (moved p).loads (moved p).steps at.readers ≡ after_producer s p
      → watch_of (machine_of m.spec words published ended passed stored m.takers) at.looked ≡ watch_after s w (ByProducer p)
      → (0 < stored → passed ≡ m.spec.readers)
      → answer ≡ record { kind = kind_of (ByProducer p); word = producer_word m.spec s.producer p; value = slice_index words (producer_word m.spec s.producer p) }
      → Advances m at who (machine_of m.spec words published ended passed stored m.takers, Some answer)
  by_producer who p words published ended passed stored answer makes may going same watch all_passed is =
      let m' = machine_of m.spec words published ended passed stored m.takers in
      let t = ring_of m' (moved p).gates (moved p).loads (moved p).steps at.readers in
      let on = step_leads m.spec ring 1 s w at.fits (ByProducer p) t (may, same) going in
      record {
        next = record {
          gates = (moved p).gates;
          loads = (moved p).loads;
          steps = (moved p).steps;
          readers = at.readers;
          looked = at.looked;
          fits = subst (λ v. Fits m.spec 1 t v) (sym watch) on.fits;
          stored_passed = all_passed;
          taker_count = at.taker_count;
          each = at.each;
        };
        made = ByProducer p ∷ [];
        took = (ByProducer p, refl, makes, (may, same), is);
        goes = (going, watch);
        onward = on.onward;
        idle = λ none. cc;
      }

  ends_advance : (who : Actor) → (who ≡ ProducerActs) ⊎ (who ≡ FinishActs) → m.ended ≡ false → m.stored ≡ 0 → Advances m at who (ends m)
  ends_advance who acts going none =
      by_producer who Finish _ _ _ _ _ _ acts (going, none) tt refl refl at.stored_passed
      (ap (λ x. record { kind = kind_of (ByProducer Finish); word = 0; value = x }) (stored_at 0 _ (omega arith)))

  gate_advance : m.ended ≡ false → m.published ≢ m.spec.id.total → m.passed < m.spec.readers → Advances m at ProducerActs (loads_gate m)
  gate_advance going more few =
      let empty : m.stored ≡ 0 = elim (cases_eq m.stored 0) [ inl e ↦ e | inr ne ↦ let p = at.stored_passed (omega arith) in absurd (omega arith) ] in
      let most = (producer_law s at.fits.law).in_total in
      by_producer ProducerActs (LoadGate m.passed) _ _ _ _ _ _ refl (going, few) (empty, omega arith, refl) (rw (set-get_or m.words (1 + m.passed) 0) refl) refl (λ h. absurd (omega arith)) refl

  store_advance : m.ended ≡ false → m.published ≢ m.spec.id.total → m.spec.readers ≤ m.passed → m.stored < BLOCK_WORDS → Advances m at ProducerActs (stores_word m)
  store_advance going more all few =
      let block : m.published + m.stored / BLOCK_WORDS ≡ m.published = omega arith in
      let word : m.stored % BLOCK_WORDS ≡ m.stored = omega arith in
      let most = (producer_law s at.fits.law).in_total in
      let passes : PassesGates m.spec s.producer (storing s.producer) = λ r h ne. let near = at.fits.passes r (omega arith) ne in omega arith in
      by_producer ProducerActs StoreWord _ _ _ _ _ _ refl (going, omega arith, passes) (omega arith, inr (inr (omega arith))) (rw (block, word) refl) refl (λ h. omega arith)
      (rw (block, word) (ap (λ x. record { kind = kind_of (ByProducer StoreWord); word = place m.spec m.published m.stored; value = x })
      (stored_at (place m.spec m.published m.stored) _ (place_within m.spec m.published m.stored ring.has_slots few))))

  publish_advance : m.ended ≡ false → BLOCK_WORDS ≤ m.stored → Advances m at ProducerActs (publishes m)
  publish_advance going whole =
      by_producer ProducerActs (Publish 1) _ _ _ _ _ _ (refl, refl) (going, omega arith, omega arith) tt refl refl (λ h. absurd (omega arith))
      (ap (λ x. record { kind = kind_of (ByProducer (Publish 1)); word = 0; value = x }) (stored_at 0 _ (omega arith)))

  producer_advances : Advances m at ProducerActs (producer_steps m)
  unfolding producer_steps
  producer_advances =
      cond_both m.ended _ _ (Advances m at ProducerActs) (λ e. stays ProducerActs (over 0 e))
      (λ going. cond_both (m.published == m.spec.id.total) _ _ (Advances m at ProducerActs)
      (λ e. let all = eqb-true _ _ e in
      ends_advance ProducerActs (inl refl) going
      (elim (cases_eq m.stored 0) [ inl none ↦ none | inr ne ↦ let below = (producer_law s at.fits.law).stored_in_total 0 (omega arith) in absurd (omega arith) ]))
      (λ more. cond_both (nat_lt m.passed m.spec.readers) _ _ (Advances m at ProducerActs)
      (λ l. gate_advance going (eqb-false _ _ more) (ltb-true _ _ l))
      (λ g. cond_both (nat_lt m.stored BLOCK_WORDS) _ _ (Advances m at ProducerActs)
      (λ l. store_advance going (eqb-false _ _ more) (ltb-false _ _ g) (ltb-true _ _ l))
      (λ l. publish_advance going (ltb-false _ _ l)))))

  finish_advances : Advances m at FinishActs (finish_steps m)
  unfolding finish_steps
  finish_advances =
      cond_both (m.ended || (not (m.passed == 0)) || (not (m.stored == 0))) _ _ (Advances m at FinishActs) (λ e. stays FinishActs (λ a. inr refl))
      (λ none.
      let (first, third) = or_parts (m.ended || (not (m.passed == 0))) (not (m.stored == 0)) none in
      let (going, second) = or_parts m.ended (not (m.passed == 0)) first in
      ends_advance FinishActs (inr refl) going (eqb-true _ _ (not-false _ third)))

  -- ---- a reader

  module _ (r : ℕ) (known : r < m.spec.readers) where
    abbrev t_at : Taker
    t_at = taker_at m r

    abbrev q_at : Reader
    q_at = reader_at s r

    both : TakerTracks t_at q_at (at.looked r)
    both = at.each r known

    here : slice_get at.readers r ≡ Some q_at
    here = let n = at.fits.reader_count in slice_get-get_or at.readers r (open_reader m.spec) (omega arith)

    abbrev read_by : ReaderMove → Reader
    read_by a = reader_after q_at a (slice_index m.words (reader_word m.spec r q_at a))

    by_reader : (who : Actor) (a : ReaderMove) (words : List ℕ) (t : Taker) (answer : Answer)
        → IsMoveOf who (ByReader r a) → ReaderMay q_at a → GoingOn 1 s w (ByReader r a)
        → words ≡ set m.words (reader_word m.spec r q_at a) (reader_leaves q_at a (slice_index m.words (reader_word m.spec r q_at a)))
        → TakerTracks t (read_by a) ((watch_after s w (ByReader r a)).looked r)
        → answer ≡ record { kind = kind_of (ByReader r a); word = reader_word m.spec r q_at a; value = slice_index words (reader_word m.spec r q_at a) }
        → Advances m at who (machine_of m.spec words m.published m.ended m.passed m.stored (set m.takers r t), Some answer)
    by_reader who a words t answer makes may going stores mine is =
        let m' = machine_of m.spec words m.published m.ended m.passed m.stored (set m.takers r t) in
        let new = ring_of m' at.gates at.loads at.steps (set at.readers r (read_by a)) in
        let step : LeadsTo s (ByReader r a) new = (q_at, here, may, ap (λ x. record s { words = x; readers = set at.readers r (read_by a) }) stores) in
        let watch = watch_by_reader s w r a in
        let on = step_leads m.spec ring 1 s w at.fits (ByReader r a) new step going in
        record {
          next = record {
            gates = at.gates;
            loads = at.loads;
            steps = at.steps;
            readers = set at.readers r (read_by a);
            looked = (watch_after s w (ByReader r a)).looked;
            fits = subst (λ v. Fits m.spec 1 new v) (sym watch) on.fits;
            stored_passed = at.stored_passed;
            taker_count = length-set m.takers r t ∙ at.taker_count;
            each = λ k h. elim (cases_eq k r) [
              | inl e ↦
                  let first = get_or-set_same m.takers r t (open_taker m.spec) (omega arith) in
                  let second = get_or-set_same at.readers r (read_by a) (open_reader m.spec) (omega arith) in
                  rw (e, first, second) mine
              | inr ne ↦
                  let first = get_or-set_other m.takers r k t (open_taker m.spec) ne in
                  let second = get_or-set_other at.readers r k (read_by a) (open_reader m.spec) ne in
                  let third = looked_by_others s w (ByReader r a) k (λ e. ne (omega arith)) in
                  rw (first, second, third) (at.each k h)
            ];
          };
          made = ByReader r a ∷ [];
          took = (ByReader r a, refl, makes, step, is);
          goes = (going, watch);
          onward = on.onward;
          idle = λ none. cc;
        }

    cursor_advance : t_at.left ≡ false → t_at.seen_end ≡ false → t_at.reading ≡ false → Advances m at (ReaderActs r) (loads_cursor m r)
    cursor_advance stays_in no_end rests =
        let (none, stale) = both.rests rests in
        let same = both.taken in
        by_reader (ReaderActs r) LoadCursor _ _ _ refl (sym both.left ∙ stays_in, sym both.seen_end ∙ no_end, sym both.read ∙ none) stale (sym (set-get_or m.words 0 0)) (record {
          taken = both.taken;
          left = both.left;
          seen_end = ap (λ x. slice_index m.words 0 == 2 * x + 1) both.taken;
          read = both.read;
          reads = λ e. let l = ltb-true _ _ e in omega arith;
          rests = λ e. (none, inr (let l = ltb-false _ _ e in omega arith));
        }) refl

    word_advance : t_at.left ≡ false → t_at.reading ≡ true → t_at.read < BLOCK_WORDS → Advances m at (ReaderActs r) (loads_word m r)
    word_advance stays_in reads few =
        let taken = both.taken in
        let k = both.read in
        let more = both.reads reads in
        let block : reading q_at ≡ t_at.taken = omega arith in
        let word : length q_at.read % BLOCK_WORDS ≡ t_at.read = omega arith in
        by_reader (ReaderActs r) LoadWord _ _ _ refl (sym both.left ∙ stays_in, omega arith) (omega arith) (sym (set-get_or m.words _ 0)) (record {
          taken = both.taken;
          left = both.left;
          seen_end = both.seen_end;
          read = rw length_push (omega arith);
          reads = both.reads;
          rests = λ e. absurd (true≢false (sym reads ∙ e));
        }) (rw (block, word) refl)

    take_advance : t_at.left ≡ false → t_at.reading ≡ true → BLOCK_WORDS ≤ t_at.read → Advances m at (ReaderActs r) (takes m r)
    take_advance stays_in reads whole =
        let k = both.read in
        let few = at.fits.read_few r known in
        by_reader (ReaderActs r) (Take 1) _ _ _ (refl, refl) (sym both.left ∙ stays_in, omega arith, omega arith) tt (ap (λ x. set m.words (1 + r) (x + 1)) both.taken) (record {
          taken = ap (λ x. x + 1) both.taken;
          left = both.left;
          seen_end = both.seen_end;
          read = refl;
          reads = λ e. absurd (true≢false (sym e));
          rests = λ e. (refl, inl (rw (eq-eqb r r refl) refl));
        }) (ap (λ x. record { kind = kind_of (ByReader r (Take 1)); word = 1 + r; value = x }) (stored_at (1 + r) _ (omega arith)))

    leave_advance : t_at.left ≡ false → t_at.reading ≡ false → Advances m at (LeaveActs r) (leaves m r)
    leave_advance stays_in rests =
        let (none, stale) = both.rests rests in
        by_reader (LeaveActs r) Leave _ _ _ refl (sym both.left ∙ stays_in, sym both.read ∙ none) tt refl (record {
          taken = both.taken;
          left = refl;
          seen_end = both.seen_end;
          read = both.read;
          reads = both.reads;
          rests = both.rests;
        }) (ap (λ x. record { kind = kind_of (ByReader r Leave); word = 1 + r; value = x }) (stored_at (1 + r) _ (omega arith)))

    reader_advances : Advances m at (ReaderActs r) (reader_steps m r)
    unfolding reader_steps
    reader_advances =
        cond_both (t_at.left || t_at.seen_end) _ _ (Advances m at (ReaderActs r)) (λ e. stays (ReaderActs r) (over (suc r) e))
        (λ going. let (stays_in, no_end) = or_parts t_at.left t_at.seen_end going in
        cond_both (not t_at.reading) _ _ (Advances m at (ReaderActs r))
        (λ e. cursor_advance stays_in no_end (not-true _ e))
        (λ e. cond_both (nat_lt t_at.read BLOCK_WORDS) _ _ (Advances m at (ReaderActs r))
        (λ l. word_advance stays_in (not-false _ e) (ltb-true _ _ l))
        (λ l. take_advance stays_in (not-false _ e) (ltb-false _ _ l))))

    leave_advances : Advances m at (LeaveActs r) (leave_steps m r)
    unfolding leave_steps
    leave_advances =
        cond_both (t_at.left || t_at.reading) _ _ (Advances m at (LeaveActs r)) (λ e. stays (LeaveActs r) (λ a. inr refl))
        (λ none. let (stays_in, rests) = or_parts t_at.left t_at.reading none in leave_advance stays_in rests)

  pub steps_advance : (who : Actor) → IsActor m.spec who → Advances m at who (machine_steps m who)
  steps_advance ProducerActs known = producer_advances
  steps_advance FinishActs known = finish_advances
  steps_advance (ReaderActs r) known = reader_advances r known
  steps_advance (LeaveActs r) known = leave_advances r known

  matches : Matches m s
  matches = record {
    spec = refl;
    words = refl;
    published = refl;
    ended = refl;
    taken = λ r h. (at.each r h).taken;
    left = λ r h. (at.each r h).left;
    seen_end = λ r h. (at.each r h).seen_end;
  }

-- ---- a schedule

-- where a schedule leads to, and by which moves
pub record Replayed (m : MachineState) (at : Beside m) (actors : List Actor) : Type 0 where
  pub end : Beside (machine_after m actors)
  pub same_spec : (machine_after m actors).spec ≡ m.spec
  pub moves : List Move
  pub goes : GoesOnTo 1 (ring_by m at) (watch_by m at) moves (ring_by (machine_after m actors) end) (watch_by (machine_after m actors) end)
  pub traces : Traces actors (ring_by m at) moves (machine_answers m actors) (ring_by (machine_after m actors) end)

pub goes_cons : (who : Actor) (s t u : Ring) (w v x : Watch) (made moves : List Move) (answer : Option Answer)
    → IsAnswer who s made answer t → Goes s w made v → GoesOnTo 1 t v moves u x → GoesOnTo 1 s w (made ++ moves) u x
goes_cons who s t u w v x made moves None (none, same) goes more =
    let kept : v ≡ w = subst (λ l. Goes s w l v) none goes in
    rw (none, ← same, ← kept) more
goes_cons who s t u w v x made moves (Some answer) (move, one, makes, step, is) goes more =
    let kept : Goes s w (move ∷ []) v = subst (λ l. Goes s w l v) one goes in
    rw one (t, step, kept.0, subst (λ y. GoesOnTo 1 t y moves u x) kept.1 more)

unfoldable pub replay_from : (actors : List Actor) (m : MachineState) → IsRing m.spec → (at : Beside m) → All (IsActor m.spec) actors → Replayed m at actors
replay_from [] m ring at all = record { end = at; same_spec = refl; moves = []; goes = (refl, refl); traces = (refl, refl, refl) }
replay_from (who ∷ actors) m ring at all =
    let adv = steps_advance m ring at who (All-head (IsActor m.spec) who actors all) in
    let next = (machine_steps m who).0 in
    let same : next.spec ≡ m.spec = steps_same m who in
    let rest = replay_from actors next (rw same ring) adv.next (rw same (All-tail (IsActor m.spec) who actors all)) in
    record {
      end = rest.end;
      same_spec = rest.same_spec ∙ same;
      moves = adv.made ++ rest.moves;
      goes = goes_cons who _ _ _ _ _ _ adv.made rest.moves (machine_steps m who).1 adv.took adv.goes rest.goes;
      traces = (adv.made, rest.moves, refl, (machine_steps m who).1, machine_answers next actors, refl, ring_by next adv.next, adv.took, rest.traces);
    }

abbrev pub open_beside : (spec : RingSpec) → IsRing spec → Beside (open_machine spec)
open_beside spec ring = record {
  gates = replicate spec.readers spec.id.first;
  loads = [];
  steps = 0;
  readers = replicate spec.readers (open_reader spec);
  looked = λ r. false;
  fits = open_fits spec ring 1;
  stored_passed = λ h. absurd (omega arith);
  taker_count = length-replicate _ _;
  each = λ r h. rw (get_or-replicate spec.readers r (open_taker spec) (open_taker spec) h, get_or-replicate spec.readers r (open_reader spec) (open_reader spec) h) (record {
    taken = refl;
    left = refl;
    seen_end = refl;
    read = refl;
    reads = λ e. absurd (true≢false (sym e));
    rests = λ e. (refl, inl refl);
  });
}

-- the moves of actors that go on are a run
pub runs_of : (b : ℕ) (moves : List Move) (s t : Ring) (w v : Watch) → GoesOnTo b s w moves t v → Runs s moves t
runs_of b [] s t w v goes = goes.0
runs_of b (move ∷ moves) s t w v (mid, step, on, goes) = (mid, step, runs_of b moves mid t (watch_after s w move) v goes)

pub every_replay_is_a_run : EveryReplayIsARun
every_replay_is_a_run spec actors ring all =
    let run = replay_from actors (open_machine spec) ring (open_beside spec ring) all in
    let m = machine_after (open_machine spec) actors in
    (run.moves, ring_by m run.end, runs_of 1 run.moves _ _ _ _ run.goes, run.traces, matches m (rw run.same_spec ring) run.end)
