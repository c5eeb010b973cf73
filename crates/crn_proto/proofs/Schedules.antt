-- The laws of every schedule.
use Rattle.std.proofs.Common.{◌≡◌, ℕ, suc, zero, ◌+◌, ◌-◌, ◌%◌, true, List, [], ◌∷◌, length, take, drop, Some, refl, sym, ap, ◌∙◌, arith, slice_get, true≢false}
use Rattle.std.specs.List.{concat}
use Rattle.std.proofs.lemmas.Option.{slice_get-get_or}
use Rattle.crn_proto.specs.Stream.{front, first_words}
use Rattle.crn_proto.specs.Ring.{IsRing, Reader, Ring, Move, ByProducer, ByReader, StoreWord, Finish, Take, LeadsTo, Runs, ProducerMay, ReaderMay, open_ring, storing}
use Rattle.crn_proto.specs.Lawful.{Lawful, parts_of}
use Rattle.crn_proto.specs.Laws.{EveryRunShowsABroadcast, EveryRunIsLawful, IsUnread, NoUnreadSlotIsWritten, WhatIsTakenWasRead, NothingFollowsTheEnd}
use Rattle.crn_proto.proofs.Fronts.{front_part, concat_front}
use Rattle.crn_proto.proofs.Opening.{parts_apart}
use Rattle.crn_proto.proofs.Places.{rests_apart}
use Rattle.crn_proto.proofs.ProducerMoves.{store_near}
use Rattle.crn_proto.proofs.Runs.{runs_lawful, ring_at, producer_law, reader_law, taken_published}

pub shows_a_broadcast : EveryRunShowsABroadcast
shows_a_broadcast spec moves s ring run = (runs_lawful spec ring moves s run).2

pub is_lawful : EveryRunIsLawful
is_lawful spec moves s ring run =
    let (same, law, more) = runs_lawful spec ring moves s run in
    (rw same at law, parts_apart s)

-- a step that stores into the slot of an unread block
no_unread : (s : Ring) (r : ℕ) (q : Reader) → IsRing s.spec → Lawful s.spec s.words (parts_of s) → ProducerMay s.spec s.producer StoreWord → slice_get s.readers r ≡ Some q
    → IsUnread s q (storing s.producer % s.spec.size) → ⊥
no_unread s r q ring law may at (here, n, slot, low, high) =
    let own = reader_law s law r q at in
    let known = own.here here in
    let near = store_near s.spec ring s.words s.producer law.of_words (producer_law s law) may r own.known (λ e. omega arith) in
    rests_apart s.spec.size n (storing s.producer) (omega arith) (omega arith) slot

pub no_unread_slot_is_written : NoUnreadSlotIsWritten
no_unread_slot_is_written spec moves s t r q ring run (may, is) at unread =
    let (same, law, more) = runs_lawful spec ring moves s run in
    no_unread s r q (ring_at spec ring s.spec same) law may at unread

read_items : (s : Ring) (r c : ℕ) (q : Reader) → Lawful s.spec s.words (parts_of s) → ReaderMay q (Take c) → slice_get s.readers r ≡ Some q
    → q.read ≡ concat (take c (drop (q.taken - s.spec.id.first) (front s.spec.id.key s.spec.id.first (s.producer.published - s.spec.id.first))))
read_items s r c q law may at =
    let own = reader_law s law r q at in
    let words : q.read ≡ first_words s.spec.id.key q.taken (length q.read) = (own.here may.0).read_words in
    let most = taken_published s r q c law at may in
    let a = q.taken - s.spec.id.first in
    let b = s.producer.published - (q.taken + c) in
    let all : s.producer.published - s.spec.id.first ≡ a + (c + b) = omega arith in
    let start : s.spec.id.first + a ≡ q.taken = omega arith in
    rw (may.1, concat_front) at words ∙ sym (rw (all, front_part, start) refl)

pub what_is_taken_was_read : WhatIsTakenWasRead
what_is_taken_was_read spec moves s t r c q ring run (p, there, may, is) at =
    let (same, law, more) = runs_lawful spec ring moves s run in
    let e : Some p ≡ Some q = sym there ∙ at in
    let e' : p ≡ q = cc in
    read_items s r c q law (rw e' at may) at

-- ---- the end

ended_stays : (s t : Ring) (move : Move) → LeadsTo s move t → s.producer.ended ≡ true → t.producer.ended ≡ true
ended_stays s t (ByProducer Finish) (may, is) e = rw is refl
ended_stays s t (ByProducer m) (may, is) e = rw is e
ended_stays s t (ByReader r m) (q, at, may, is) e = rw is e

ended_on : (moves : List Move) (s t : Ring) → Runs s moves t → s.producer.ended ≡ true → t.producer.ended ≡ true
ended_on [] s t run e = rw run e
ended_on (move ∷ moves) s t (mid, step, run) e = ended_on moves mid t run (ended_stays s mid move step e)

ended_at : (moves : List Move) (k : ℕ) (s t : Ring) → Runs s moves t → slice_get moves k ≡ Some (ByProducer Finish) → t.producer.ended ≡ true
ended_at [] k s t run h = cc
ended_at (move ∷ moves) zero s t (mid, step, run) h =
    let e : move ≡ ByProducer Finish = cc in
    let done : LeadsTo s (ByProducer Finish) mid = rw e at step in
    ended_on moves mid t run (rw done.1 refl)
ended_at (move ∷ moves) (suc k) s t (mid, step, run) h = ended_at moves k mid t run h

pub nothing_follows_the_end : NothingFollowsTheEnd
nothing_follows_the_end spec moves s t c ring run (k, within, is) =
    let e : s.producer.ended ≡ true = ended_at moves k (open_ring spec) s run (slice_get-get_or moves k (ByProducer Finish) within ∙ ap (λ x. Some x) is) in
    ((λ step. absurd (true≢false (sym e ∙ step.0.0))), (λ step. absurd (true≢false (sym e ∙ step.0.0))))
