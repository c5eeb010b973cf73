-- A machine's progress, from that of the run that its steps are: with batches of one block.
use Rattle.std.proofs.Common.{◌≡◌, ℕ, zero, suc, ◌+◌, ◌<◌, ◌≤◌, ◌≢◌, ◌||◌, ◌&&◌, ◌⊎◌, not, Bool, true, false, List, [], ◌∷◌, ◌++◌, length, Option, Some, None, inl, inr, refl, sym, ap, subst, ◌∙◌, arith, All, if◌then◌else◌, ◌==◌}
use Rattle.std.proofs.lemmas.Bool.{cases_Bool, cases_eq, eq-eqb, true≢false}
use Rattle.std.proofs.lemmas.List.Elements.{All-head, All-tail}
use Rattle.crn_proto.specs.declared.spec.RingSpec.{RingSpec}
use Rattle.crn_proto.specs.declared.schedule.Actor.{Actor}
use Rattle.crn_proto.specs.declared.schedule.Actor.TheVariants.{Producer}
use Rattle.crn_proto.specs.declared.schedule.Step.{Step as Answer}
use Rattle.crn_proto.specs.Ring.{IsRing, Ring, Move, ByProducer, ByReader, LoadGate, Publish, Finish as FinishMove, LoadCursor, LoadWord, Take, LeadsTo, bit}
use Rattle.crn_proto.specs.Machine.{MachineState, IsActor, machine_steps, machine_after, open_machine}
use Rattle.crn_proto.specs.Traces.{kind_of, reader_at, IsMoveOf, IsAnswer}
use Rattle.crn_proto.specs.Progress.{owner, machine_mark, has_finished, is_store, has_stored, makes_progress, progress, progress_of, is_turn_of, turns_of, stores_in, turns_to_progress, turns_a_round, ProgressIsBounded, NeverStuck, IsRound, AreRounds, after_rounds, EndsByRounds}
use Rattle.crn_proto.specs.Batches.{Watch, mover, ring_mark, moves_by, stores_by, RoundsLead}
use Rattle.crn_proto.proofs.Runs.{bit_small}
use Rattle.crn_proto.proofs.Replays.{same_spec as steps_same}
use Rattle.crn_proto.proofs.Pace.{Onward, finished_on}
use Rattle.crn_proto.proofs.Batches.{Fits, comes, part_now, part_by_others}
use Rattle.crn_proto.proofs.BatchRounds.{batches_never_stick, batches_end_by_rounds}
use Rattle.crn_proto.proofs.Stores.{stores_are_bounded}
use Rattle.crn_proto.proofs.Tracing.{Beside, Advances, Replayed, ring_by, watch_by, steps_advance, replay_from, open_beside, runs_of}

-- ---- one move

mover_is : (who : Actor) (move : Move) → IsMoveOf who move → mover move ≡ owner who
mover_is who (ByProducer (Publish c)) h = sym (ap owner h.0)
mover_is who (ByProducer FinishMove) h = elim h [ inl e ↦ sym (ap owner e) | inr e ↦ sym (ap owner e) ]
mover_is who (ByReader r (Take c)) h = sym (ap owner h.0)
mover_is who move h = sym (ap owner h)

-- by another's move an actor does not finish
finished_by_others : (s t : Ring) (move : Move) (a : ℕ) → mover move ≢ a → LeadsTo s move t → has_finished (ring_mark t) a ≡ has_finished (ring_mark s) a
finished_by_others s t (ByProducer p) zero ne step = absurd (ne refl)
finished_by_others s t (ByReader k p) zero ne (q, at, may, is) = rw is refl
finished_by_others s t move (suc r) ne step = let e = part_by_others s t move r ne step in rw e refl

-- the readers below n that have seen the end
abbrev count : (ℕ → Bool) → ℕ → ℕ
count f zero = 0
count f (suc n) = bit (f n) + count f n

count_few : (f : ℕ → Bool) (n : ℕ) → count f n ≤ n
count_few f zero = omega arith
count_few f (suc n) = let b = bit_small (f n) in let more = count_few f n in omega arith

bit_rises : (a b : Bool) → (a ≡ true → b ≡ true) → bit a ≤ bit b
bit_rises true b h = rw (h refl) (omega arith)
bit_rises false b h = omega arith

-- a test that holds of more numbers counts more, and one more if it now holds of r
count_rises : (f g : ℕ → Bool) (n r : ℕ) → ((k : ℕ) → k < n → f k ≡ true → g k ≡ true) → (count f n ≤ count g n) × (r < n → f r ≡ false → bit (g r) + count f n ≤ count g n)
count_rises f g zero r on = (omega arith, λ h. absurd (omega arith))
count_rises f g (suc n) r on =
    let b = bit_rises (f n) (g n) (on n (omega arith)) in
    let (all, one) = count_rises f g n r (λ k h. on k (omega arith)) in (
      omega arith,
      λ h none. elim (cases_eq r n) [
        | inl e ↦ let before : bit (f n) ≡ 0 = rw (← e, none) refl in let after : bit (g r) ≡ bit (g n) = ap (λ k. bit (g k)) e in omega arith
        | inr ne ↦ let more = one (omega arith) none in omega arith
      ],
    )

nothing_new : (b : Bool) → not b && b ≡ false
nothing_new true = refl
nothing_new false = refl

-- the readers of a ring that have seen the end
abbrev seen : RingSpec → Ring → ℕ
seen spec s = count (ring_mark s).seen_end spec.readers

-- whether a turn of actor a is progress that leads from s to t
abbrev shows : Ring → Ring → ℕ → Option Answer → Bool
shows s t a answer = has_stored answer || (not (has_finished (ring_mark s) a) && has_finished (ring_mark t) a)

module _ (spec : RingSpec) (ring : IsRing spec) (s : Ring) (w : Watch) (fits : Fits spec 1 s w) (t : Ring) (onward : Onward spec (ring_mark s) (ring_mark t)) where
  rises : seen spec s ≤ seen spec t
  rises = (count_rises (ring_mark s).seen_end (ring_mark t).seen_end spec.readers 0 onward.seen_end).0

  -- by a move that is no store a reader may see the end
  abbrev sees : Move → Type 0
  sees move = bit (is_store (kind_of move) || (not (has_finished (ring_mark s) (mover move)) && has_finished (ring_mark t) (mover move))) + seen spec s ≤ bit (is_store (kind_of move)) + seen spec t

  same_sees : (a : ℕ) → has_finished (ring_mark t) a ≡ has_finished (ring_mark s) a → bit (not (has_finished (ring_mark s) a) && has_finished (ring_mark t) a) + seen spec s ≤ 0 + seen spec t
  same_sees a same = let up = rises in rw (same, nothing_new (has_finished (ring_mark s) a)) (omega arith)

  move_sees : (move : Move) → LeadsTo s move t → mover move ≤ spec.readers → sees move
  move_sees (ByProducer (LoadGate r)) (may, is) h = same_sees 0 (rw is refl)
  move_sees (ByReader r LoadCursor) step h =
      let ((stays, no_end, none), is) = part_now spec ring 1 s w fits r t LoadCursor step in
      let left : (reader_at t r).left ≡ false = rw is stays in
      let more = (count_rises (ring_mark s).seen_end (ring_mark t).seen_end spec.readers r onward.seen_end).1 (omega arith) no_end in
      rw (stays, no_end, left) (omega arith)
  move_sees (ByReader r LoadWord) step h = let (may, is) = part_now spec ring 1 s w fits r t LoadWord step in same_sees (suc r) (rw is refl)
  move_sees move step h = let up = rises in omega arith

  -- so may a turn
  answer_sees : (who : Actor) (made : List Move) (answer : Option Answer) → IsAnswer who s made answer t → owner who ≤ spec.readers
      → bit (shows s t (owner who) answer) + seen spec s ≤ stores_in made + seen spec t
  answer_sees who made None (none, same) h = let few = same_sees (owner who) (ap (λ u. has_finished (ring_mark u) (owner who)) same) in rw none (omega arith)
  answer_sees who made (Some answer) (move, one, makes, step, is) h =
      let e = mover_is who move makes in
      let sees = move_sees move step (rw e h) in
      rw (one, is, ← e) (omega arith)

-- ---- one turn

own_turn : (a : ℕ) (who : Actor) → bit (is_turn_of a who) ≤ bit (owner who == a)
own_turn a Producer = omega arith
own_turn a who = omega arith

store_is : (mine stores more : Bool) → (if mine then bit stores else 0) ≤ bit (mine && (stores || more))
store_is true true more = omega arith
store_is mine stores more = omega arith

all_one : (b : Bool) → bit (b || true) ≡ 1
all_one true = refl
all_one false = refl

-- what a turn counts for actor a
abbrev Counted : Actor → Ring → List Move → Option Answer → Ring → ℕ → Type 0
Counted who s made answer t a =
    ((answer ≡ None) ⊎ (moves_by a made ≡ bit (owner who == a)))
    × (stores_by a made ≤ bit ((owner who == a) && shows s t (owner who) answer))
    × (has_finished (ring_mark s) a ≡ false → has_finished (ring_mark t) a ≡ true → bit ((owner who == a) && shows s t (owner who) answer) ≡ 1)

counted : (who : Actor) (s : Ring) (made : List Move) (answer : Option Answer) (t : Ring) (a : ℕ) → IsAnswer who s made answer t → Counted who s made answer t a
counted who s made None t a (none, same) = (
  inl refl,
  rw none (omega arith),
  λ going fin. absurd (true≢false (sym fin ∙ ap (λ u. has_finished (ring_mark u) a) same ∙ going)),
)
counted who s made (Some answer) t a (move, one, makes, step, is) =
    let mine = mover_is who move makes in (
      inr (rw (one, mine) (omega arith)),
      rw (one, is, mine) (let few = store_is (owner who == a) (is_store (kind_of move)) (not (has_finished (ring_mark s) (owner who)) && has_finished (ring_mark t) (owner who)) in omega arith),
      λ going fin. elim (cases_eq (owner who) a) [
        | inl e ↦ rw (eq-eqb (owner who) a e, e, going, fin) (all_one (has_stored (Some answer)))
        | inr ne ↦ absurd (true≢false (sym fin ∙ finished_by_others s t move a (λ e. ne (sym mine ∙ e)) step ∙ going))
      ],
    )

finished_alike : (m : MachineState) (at : Beside m) (a : ℕ) → a ≤ m.spec.readers → has_finished (machine_mark m) a ≡ has_finished (ring_mark (ring_by m at)) a
finished_alike m at zero h = refl
finished_alike m at (suc r) h = let e = at.each r (omega arith) in rw (e.left, e.seen_end) refl

owner_few : (spec : RingSpec) (who : Actor) → IsActor spec who → owner who ≤ spec.readers
owner_few spec Producer h = omega arith
owner_few spec who h = omega arith

-- whether the turn is progress, by the ring's states
progress_shown : (m : MachineState) (at : Beside m) (who : Actor) → IsActor m.spec who → (adv : Advances m at who (machine_steps m who))
    → makes_progress m who ≡ shows (ring_by m at) (ring_by (machine_steps m who).0 adv.next) (owner who) (machine_steps m who).1
progress_shown m at who known adv =
    let few = owner_few m.spec who known in
    let before = finished_alike m at (owner who) few in
    let after = finished_alike (machine_steps m who).0 adv.next (owner who) (rw (steps_same m who) few) in
    rw (before, after) refl

-- ---- a schedule

-- what is counted move by move is added up
sums : (f : List Move → ℕ) → f [] ≡ 0 → ((m : Move) (ms : List Move) → f (m ∷ ms) ≡ f (m ∷ []) + f ms) → (xs ys : List Move) → f (xs ++ ys) ≡ f xs + f ys
sums f none one [] ys = omega (arith, none)
sums f none one (m ∷ xs) ys = omega (arith, sums f none one xs ys, one m (xs ++ ys), one m xs)

-- what a schedule counts for actor a, and its run for the actor's moves
record Counts (a : ℕ) (m : MachineState) (actors : List Actor) (s : Ring) (moves : List Move) (t : Ring) : Type 0 where
  turns : (has_finished (ring_mark t) a ≡ true) ⊎ (turns_of a actors ≤ moves_by a moves)
  stores : stores_by a moves ≤ progress_of a m actors
  finishes : has_finished (ring_mark s) a ≡ false → has_finished (ring_mark t) a ≡ true → 0 < progress_of a m actors
  -- all progress are stores, and readers that see the end
  sees : progress m actors + seen m.spec s ≤ stores_in moves + seen m.spec t

abbrev end_of : {m : MachineState} {at : Beside m} {actors : List Actor} → Replayed m at actors → Ring
end_of {m} {at} {actors} run = ring_by (machine_after m actors) run.end

counts : (actors : List Actor) (m : MachineState) (ring : IsRing m.spec) (at : Beside m) (all : All (IsActor m.spec) actors) (a : ℕ) → a ≤ m.spec.readers
    → Counts a m actors (ring_by m at) (replay_from actors m ring at all).moves (end_of (replay_from actors m ring at all))
unfolding replay_from
counts [] m ring at all a few = record { turns = inr (omega arith); stores = omega arith; finishes = λ going fin. absurd (true≢false (sym fin ∙ going)); sees = omega arith }
counts (who ∷ actors) m ring at all a few =
    let known = All-head (IsActor m.spec) who actors all in
    let adv = steps_advance m ring at who known in
    let next = (machine_steps m who).0 in
    let same : next.spec ≡ m.spec = steps_same m who in
    let few' : a ≤ next.spec.readers = rw same few in
    let later : All (IsActor next.spec) actors = rw same (All-tail (IsActor m.spec) who actors all) in
    let ring' : IsRing next.spec = rw same ring in
    let rest = replay_from actors next ring' adv.next later in
    let more = counts actors next ring' adv.next later a few' in
    let (moves, stores, finishes) = counted who (ring_by m at) adv.made (machine_steps m who).1 (ring_by next adv.next) a adv.took in
    let shown = progress_shown m at who known adv in
    let sum = sums (moves_by a) refl (λ m ms. omega arith) adv.made rest.moves in
    let all_stores = sums (stores_by a) refl (λ m ms. omega arith) adv.made rest.moves in
    let own = own_turn a who in
    let here : stores_by a adv.made ≤ bit ((owner who == a) && makes_progress m who) = rw shown stores in
    let t = ring_by next adv.next in
    let one = answer_sees m.spec ring (ring_by m at) (watch_by m at) at.fits t adv.onward who adv.made (machine_steps m who).1 adv.took (owner_few m.spec who known) in
    let sees_here : bit (makes_progress m who) + seen m.spec (ring_by m at) ≤ stores_in adv.made + seen m.spec t = rw shown one in
    let sees_later = subst (λ x. progress next actors + seen x t ≤ stores_in rest.moves + seen x (end_of rest)) same more.sees in
    let all_sum = sums stores_in refl (λ m ms. omega arith) adv.made rest.moves in
    record {
      turns = elim more.turns [
        | inl fin ↦ inl fin
        | inr turns ↦ elim moves [
          | inl none ↦ elim (adv.idle none a) [
            | inl fin ↦
                let before : has_finished (ring_mark (ring_by m at)) a ≡ true = sym (finished_alike m at a few) ∙ fin in
                inl (finished_on m.spec _ _ (comes m.spec ring 1 _ _ _ _ _ at.fits (replay_from (who ∷ actors) m ring at all).goes).onward a few before)
            | inr other ↦ let zero_turns : bit (is_turn_of a who) ≡ 0 = rw other refl in inr (omega arith)
          ]
          | inr mine ↦ inr (omega arith)
        ]
      ];
      stores = omega arith;
      sees = omega arith;
      finishes = λ going fin. elim (cases_Bool (has_finished (ring_mark t) a)) [
        | inl now ↦ let one : bit ((owner who == a) && makes_progress m who) ≡ 1 = rw shown (finishes going now) in omega arith
        | inr still ↦ let some = more.finishes still fin in omega arith
      ];
    }

-- ---- the laws

pub progress_is_bounded : ProgressIsBounded
progress_is_bounded spec actors ring all =
    let at = open_beside spec ring in
    let run = replay_from actors (open_machine spec) ring at all in
    let most = (counts actors (open_machine spec) ring at all 0 (omega arith)).sees in
    omega (arith, count_few (ring_mark (end_of run)).seen_end spec.readers, stores_are_bounded spec run.moves (end_of run) ring (runs_of 1 run.moves _ _ _ _ run.goes))

pub never_stuck : NeverStuck
never_stuck spec actors ring all unfinished =
    let run = replay_from actors (open_machine spec) ring (open_beside spec ring) all in
    let m = machine_after (open_machine spec) actors in
    let same = run.same_spec in
    let here : IsRing m.spec = rw same ring in
    let readers : m.spec.readers ≡ spec.readers = ap (λ x. x.readers) same in
    let (a, few, going, makes) = batches_never_stick spec 1 run.moves (end_of run) (watch_by m run.end) ring (omega arith) run.goes
    (λ fin. unfinished (λ k h. finished_alike m run.end k (omega arith) ∙ fin k h)) in
    let few' : a ≤ m.spec.readers = omega arith in
    let need : turns_to_progress 1 m.spec a ≡ turns_to_progress 1 spec a = ap (λ x. turns_to_progress 1 x a) same in (
      a,
      few,
      finished_alike m run.end a few' ∙ going,
      λ later mine enough.
          let known : All (IsActor m.spec) later = rw same mine in
          let next = replay_from later m here run.end known in
          let has = counts later m here run.end known a few' in
          elim has.turns [
            | inl fin ↦ has.finishes going fin
            | inr turns ↦ elim (makes next.moves (end_of next) _ next.goes (omega arith)) [ inl some ↦ omega arith | inr fin ↦ has.finishes going fin ]
          ],
    )

-- rounds of turns are rounds of moves
rounds_lead : (spec : RingSpec) → IsRing spec → (rounds : List (List Actor)) (m : MachineState) → m.spec ≡ spec → (at : Beside m) → All (All (IsActor spec)) rounds → AreRounds spec m rounds
    → (moves : List (List Move)) × (length moves ≡ length rounds) × ((after_rounds m rounds).spec ≡ spec) × (end : Beside (after_rounds m rounds))
    × RoundsLead 1 (ring_by m at) (watch_by m at) moves (ring_by (after_rounds m rounds) end) (watch_by (after_rounds m rounds) end)
rounds_lead spec ring [] m same at all are = ([], refl, same, at, (refl, refl))
rounds_lead spec ring (round ∷ rounds) m same at all are =
    let mine : All (IsActor m.spec) round = rw same (All-head (All (IsActor spec)) round rounds all) in
    let here : IsRing m.spec = rw same ring in
    let run = replay_from round m here at mine in
    let next = machine_after m round in
    let kept : next.spec ≡ spec = run.same_spec ∙ same in
    let (moves, long, final, end, lead) = rounds_lead spec ring rounds next kept run.end (All-tail (All (IsActor spec)) round rounds all) are.1 in
    let turns : IsRound 1 next.spec (λ a. moves_by a run.moves) (ring_mark (end_of run)) = λ a h.
    let need : turns_a_round 1 next.spec a ≡ turns_a_round 1 spec a = ap (λ x. turns_a_round 1 x a) kept in
    let few : a ≤ spec.readers = rw (← kept) h in
    elim (are.0 a few) [
      | inl fin ↦ inl (sym (finished_alike next run.end a h) ∙ fin)
      | inr turns ↦ elim (counts round m here at mine a (rw same few)).turns [ inl fin ↦ inl fin | inr many ↦ inr (omega arith) ]
    ] in
    (run.moves ∷ moves, ap suc long, final, end, (end_of run, watch_by next run.end, run.goes, turns, lead))

pub ends_by_rounds : EndsByRounds
ends_by_rounds spec rounds ring all are long =
    let (moves, many, final, end, lead) = rounds_lead spec ring rounds (open_machine spec) refl (open_beside spec ring) all are in
    let m = after_rounds (open_machine spec) rounds in
    let fin = batches_end_by_rounds spec 1 moves (ring_by m end) (watch_by m end) ring (omega arith) lead (omega arith) in
    λ a h. finished_alike m end a (rw final h) ∙ fin a h
