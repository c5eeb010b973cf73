-- Actors that go on with batches can always go on, do not stick, and end by rounds.
use Rattle.std.proofs.Common.{◌≡◌, ℕ, zero, suc, ◌+◌, ◌-◌, ◌/◌, ◌%◌, ◌<◌, ◌≤◌, ◌||◌, ◌⊎◌, Bool, true, false, List, [], ◌∷◌, length, inl, inr, refl, sym, ap, subst, ◌∙◌, arith, nat_lt}
use Rattle.std.proofs.lemmas.Bool.{cases_Bool, cases_eq, cases_lt, true≢false, ltb-false, ltb-true, or_cases, or_from, or_left, or_parts}
use Rattle.std.proofs.lemmas.Option.{slice_get-get_or}
use Rattle.crn_cipher.specs.declared.TheConstants.{BLOCK_WORDS}
use Rattle.crn_proto.specs.declared.spec.RingSpec.{RingSpec}
use Rattle.crn_proto.specs.Ring.{IsRing, Reader, ReaderMove, Ring, Move, ByProducer, ByReader, LoadGate, StoreWord, Publish, Finish, LoadCursor, LoadWord, Take, LeadsTo, ReaderMay, PassesGates, storing, reading, open_ring, open_reader}
use Rattle.crn_proto.specs.Traces.{reader_at}
use Rattle.crn_proto.specs.Batches.{Watch, open_watch, GoingOn, GoesOnTo, mover, ring_mark, moves_by, CanGoOn, MakesProgress, BatchesNeverStick, RoundsLead, BatchesEndByRounds}
use Rattle.crn_proto.specs.Progress.{Mark, has_finished, AllFinished, IsRound}
use Rattle.crn_proto.proofs.Runs.{producer_law}
use Rattle.crn_proto.proofs.Pace.{HasRoom, Rounds, Paced, last_mark, all_or_one, all_finished, paced_ends}
use Rattle.crn_proto.proofs.Batches.{Fits, law_of, marks_stand, after_producer, after_reader, comes, open_fits, producer_does, producer_ends, reader_takes, reader_sees_end}

-- ---- an actor can go on

module _ (spec : RingSpec) (b : ℕ) (some : 0 < b) (s : Ring) (w : Watch) (fits : Fits spec b s w) where
  abbrev CanMove : ℕ → Type 0
  CanMove a = (move : Move) × (mover move ≡ a) × (t : Ring) × LeadsTo s move t × GoingOn b s w move

  producer_can : s.producer.ended ≡ false → CanMove 0
  producer_can going =
      let own = producer_law s fits.law in
      let total : s.spec.id.total ≡ spec.id.total = ap (λ x. x.id.total) fits.same in
      let readers : s.spec.readers ≡ spec.readers = ap (λ x. x.readers) fits.same in
      let slots : s.spec.size ≡ spec.size = ap (λ x. x.size) fits.same in
      elim (cases_eq s.producer.stored 0) [
        | inl none ↦ elim (cases_lt s.producer.published s.spec.id.total) [
          | inr full ↦ (ByProducer Finish, refl, after_producer s Finish, ((going, none), refl), tt)
          | inl more ↦ elim (cases_lt w.passed s.spec.readers) [
            | inl next ↦ (ByProducer (LoadGate w.passed), refl, after_producer s (LoadGate w.passed), ((going, next), refl), (none, more, refl))
            | inr all ↦
                let at : storing s.producer ≡ s.producer.published = omega arith in
                let below : storing s.producer < s.spec.id.total = omega arith in
                let passes : PassesGates s.spec s.producer (storing s.producer) = λ r h ne. let near = fits.passes r (omega arith) ne in omega arith in
                (ByProducer StoreWord, refl, after_producer s StoreWord, ((going, below, passes), refl), (omega arith, inr (inr (omega arith))))
          ]
        ]
        | inr has ↦ elim (cases_eq (s.producer.stored % BLOCK_WORDS) 0) [
          | inl whole ↦ (ByProducer (Publish (s.producer.stored / BLOCK_WORDS)), refl, after_producer s (Publish (s.producer.stored / BLOCK_WORDS)), ((going, omega arith, omega arith), refl), tt)
          | inr part ↦
              let at : s.producer.published + (s.producer.stored - 1) / BLOCK_WORDS ≡ storing s.producer = omega arith in
              let last : s.producer.published + (s.producer.stored - 1) / BLOCK_WORDS < s.spec.id.total = own.stored_in_total (s.producer.stored - 1) (omega arith) in
              let below : storing s.producer < s.spec.id.total = omega arith in
              let passes : PassesGates s.spec s.producer (storing s.producer) = subst (λ n. PassesGates s.spec s.producer n) at (own.stored_passed (s.producer.stored - 1) (omega arith)) in
              (ByProducer StoreWord, refl, after_producer s StoreWord, ((going, below, passes), refl), (omega arith, inl (omega arith)))
        ]
      ]

  module _ (r : ℕ) (known : r < spec.readers) (stays : (reader_at s r).left ≡ false) (no_end : (reader_at s r).seen_end ≡ false) where
    abbrev q : Reader
    q = reader_at s r

    by_reader : (m : ReaderMove) → ReaderMay q m → GoingOn b s w (ByReader r m) → CanMove (suc r)
    by_reader m may on = let n = fits.reader_count in (ByReader r m, refl, after_reader s r q m, (q, slice_get-get_or s.readers r (open_reader s.spec) (omega arith), may, refl), on)

    reader_can : CanMove (suc r)
    reader_can =
        let here = (law_of spec b s w fits r known).here stays in
        let few = fits.read_few r known in
        elim (cases_eq (length q.read) 0) [
          | inl none ↦ elim (cases_Bool (w.looked r)) [
            | inr fresh ↦ by_reader LoadCursor (stays, no_end, none) (inl fresh)
            | inl looked ↦ elim (cases_lt q.taken q.seen) [
              | inr stale ↦ by_reader LoadCursor (stays, no_end, none) (inr stale)
              | inl more ↦ let next : reading q < q.seen = omega arith in by_reader LoadWord (stays, next) (omega arith)
            ]
          ]
          | inr has ↦ elim (cases_eq (length q.read % BLOCK_WORDS) 0) [
            | inl whole ↦ by_reader (Take (length q.read / BLOCK_WORDS)) (stays, omega arith, omega arith) tt
            | inr part ↦ let next : reading q < q.seen = omega arith in by_reader LoadWord (stays, next) (omega arith)
          ]
        ]

  can : (a : ℕ) → a ≤ spec.readers → has_finished (ring_mark s) a ≡ false → CanMove a
  can zero h going = producer_can going
  can (suc r) h going = let (stays, no_end) = or_parts _ _ going in reader_can r (omega arith) stays no_end

pub can_go_on : CanGoOn
can_go_on spec b moves s w ring some run a h going =
    let to = comes spec ring b moves (open_ring spec) s open_watch w (open_fits spec ring b) run in
    can spec b some s w to.fits a h going

-- ---- never stuck

module _ (spec : RingSpec) (ring : IsRing spec) (b : ℕ) (s : Ring) (w : Watch) (fits : Fits spec b s w) where
  abbrev SomeProgresses : Type 0
  SomeProgresses = (a : ℕ) × (a ≤ spec.readers) × (has_finished (ring_mark s) a ≡ false) × MakesProgress b s w a

  taker_progresses : (r : ℕ) → r < spec.readers → has_finished (ring_mark s) (suc r) ≡ false → (reader_at s r).taken < s.producer.published → SomeProgresses
  taker_progresses r below there more =
      let (stays, no_end) = or_parts _ _ there in
      (suc r, omega arith, there, λ later t v run enough. inl (reader_takes spec ring b r below later s t w v fits run stays no_end more (inl enough)).0)

  -- whether reader r leaves room for the next block
  abbrev leaves_room : ℕ → Bool
  leaves_room r = (reader_at s r).left || nat_lt s.producer.published ((reader_at s r).taken + spec.size)

  has_room : ((r : ℕ) → r < spec.readers → leaves_room r ≡ true) → HasRoom spec (ring_mark s)
  has_room room r h = elim (or_cases (reader_at s r).left _ (room r h)) [ inl left ↦ inl left | inr near ↦ inr (ltb-true _ _ near) ]

  progresses_or_finished : AllFinished spec (ring_mark s) ⊎ SomeProgresses
  progresses_or_finished =
      let readers : s.spec.readers ≡ spec.readers = ap (λ x. x.readers) fits.same in
      elim (cases_Bool s.producer.ended) [
        | inl end ↦ elim (all_or_one (λ r. has_finished (ring_mark s) (suc r)) spec.readers) [
          | inl all ↦ inl (all_finished spec (ring_mark s) end all)
          | inr (r, below, there) ↦ elim (cases_lt (reader_at s r).taken s.producer.published) [
            | inl more ↦ inr (taker_progresses r below there more)
            | inr none ↦
                let stays = (or_parts (reader_at s r).left _ there).0 in
                let own = (marks_stand spec b s w fits).in_published r below stays in
                let whole : (reader_at s r).taken ≡ s.producer.published = omega arith in
                inr (suc r, omega arith, there, λ later t v run enough. inr (reader_sees_end spec ring b r below later s t w v fits run stays end whole (omega arith)))
          ]
        ]
        | inr going ↦ elim (all_or_one leaves_room spec.readers) [
          | inl room ↦ inr (0, omega arith, going, λ later t v run enough. inl ((producer_does spec ring b later s t w v fits run going (has_room room)).stores (λ e. omega arith) (omega arith)))
          | inr (r, below, full) ↦
              let (stays, far) = or_parts (reader_at s r).left _ full in
              let none = ltb-false _ _ far in
              elim (cases_Bool (reader_at s r).seen_end) [
                | inl seen ↦ absurd (true≢false (sym ((marks_stand spec b s w fits).at_end r below seen) ∙ going))
                | inr no_end ↦ inr (taker_progresses r below (or_from _ _ stays no_end) (omega arith))
              ]
        ]
      ]

pub batches_never_stick : BatchesNeverStick
batches_never_stick spec b moves s w ring some run unfinished =
    let to = comes spec ring b moves (open_ring spec) s open_watch w (open_fits spec ring b) run in
    elim (progresses_or_finished spec ring b s w to.fits) [ inl finished ↦ absurd (unfinished finished) | inr one ↦ one ]

-- ---- rounds

module _ (spec : RingSpec) (ring : IsRing spec) (b : ℕ) where
  -- a round leads from mark to mark
  one_round : (s t : Ring) (w v : Watch) (round : List Move) → Fits spec b s w → GoesOnTo b s w round t v → IsRound b t.spec (λ a. moves_by a round) (ring_mark t) → Rounds spec (ring_mark s) (ring_mark t)
  one_round s t w v round fits run turns =
      let to = comes spec ring b round s t w v fits run in
      let readers : t.spec.readers ≡ spec.readers = ap (λ x. x.readers) to.fits.same in
      record {
        stands = marks_stand spec b s w fits;
        onward = to.onward;
        publishes = λ going more room. elim (turns 0 (omega arith)) [
          | inl end ↦ inl end
          | inr enough ↦ (producer_does spec ring b round s t w v fits run going room).publishes more (λ e. omega arith) (λ h. omega arith)
        ];
        ends = λ going full. elim (turns 0 (omega arith)) [ inl end ↦ end | inr enough ↦ producer_ends spec ring b round s t w v fits run going full (omega arith) ];
        takes = λ r h there below. elim (turns (suc r) (omega arith)) [
          | inl fin ↦ inl fin
          | inr enough ↦
              let (stays, no_end) = or_parts (reader_at s r).left (reader_at s r).seen_end there in
              elim (reader_takes spec ring b r h round s t w v fits run stays no_end below (inl enough)).1 [ inl left ↦ inl (or_left _ _ left) | inr took ↦ inr took ]
        ];
        sees_end = λ r h there end whole. elim (turns (suc r) (omega arith)) [
          | inl fin ↦ fin
          | inr enough ↦ reader_sees_end spec ring b r h round s t w v fits run (or_parts (reader_at s r).left (reader_at s r).seen_end there).0 end whole (omega arith)
        ];
      }

  -- rounds lead from mark to mark
  marks : (rounds : List (List Move)) (s t : Ring) (w v : Watch) → Fits spec b s w → RoundsLead b s w rounds t v
      → (marks : List Mark) × (length marks ≡ length rounds) × Paced spec (ring_mark s) marks × (last_mark (ring_mark s) marks ≡ ring_mark t) × Fits spec b t v
  marks [] s t w v fits (is, kept) = rw (is, kept) ([], refl, tt, refl, fits)
  marks (round ∷ rounds) s t w v fits (mid, u, run, turns, more) =
      let to = comes spec ring b round s mid w u fits run in
      let (rest, long, paced, last, final) = marks rounds mid t u v to.fits more in
      (ring_mark mid ∷ rest, ap suc long, (one_round s mid w u round fits run turns, paced), last, final)

pub batches_end_by_rounds : BatchesEndByRounds
batches_end_by_rounds spec b rounds s w ring some lead long =
    let open_fit = open_fits spec ring b in
    let (rest, many, paced, last, final) = marks spec ring b rounds (open_ring spec) s open_watch w open_fit lead in
    subst (λ x. AllFinished spec x) last (paced_ends spec ring (ring_mark (open_ring spec)) rest (marks_stand spec b (open_ring spec) open_watch open_fit) paced (omega arith))
