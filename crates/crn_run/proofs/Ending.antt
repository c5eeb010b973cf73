-- The runs of all policies, as stacks: of their jobs, and of their ends.
use Rattle.std.proofs.Common.{◌≡◌, ◌≢◌, Bool, ℕ, zero, suc, refl, ◌+◌, ◌<◌, ◌≤◌, List, [], ◌∷◌, ◌++◌, length, Option, None, Some, slice_get, get_or, Result, Ok, Err, IfErr, IfOk, OnOk, OnErr, true, false, subst, sym, ap, ◌∙◌, arith, length-append}
use mathlib.Core.Logic.{dite}
use native.Mathlib.Decide.{ℕ_discrete}
use Rattle.std.proofs.lemmas.Bool.{false≢true}
use Rattle.std.specs.Prelude.{⊤, IsErr, IsErrAnd, MatchResult}
use Rattle.std.specs.List.{list_any}
use Rattle.std.proofs.lemmas.Option.{slice_get_within, slice_get-get_or, get_or_from_slice_get}
use Rattle.std.proofs.lemmas.List.Folds.{list_any_at}
use Rattle.crn_stock.specs.Parts.{Parts}
use Rattle.crn_stock.specs.Models.{ScenarioParts}
use Rattle.crn_proto.specs.declared.actor_parts.ReaderPart.{ReaderPart}
use Rattle.crn_stock.specs.Stock.{OnwardAt, next_block}
use Rattle.crn_proto.specs.declared.spec.RingSpec.{RingSpec}
use Rattle.crn_ring.specs.declared.ring.Ring.{Ring}
use Rattle.crn_ring.specs.declared.reader.Reader.{Reader}
use Rattle.crn_ring.specs.Calls.{IsFresh, reader_number, reader_part, spec_of}
use Rattle.crn_run.specs.declared.fault.RunFault.{RunFault}
use Rattle.crn_run.specs.declared.fault.RunFault.TheVariants.{Thread, Gate, Memory}
use Rattle.crn_run.specs.declared.run.Finished.{Finished}
use Rattle.crn_run.specs.declared.jobs.Job.{Job}
use Rattle.crn_sequential.specs.Runs.{IsCheckpointOf, StandsBefore, EachOnward}
use Rattle.crn_run.specs.declared.worker.PolicyEnd.{PolicyEnd}
use Rattle.crn_run.specs.declared.worker.PolicyEnd.TheVariants.{Reached, Short, Held}
use Rattle.crn_run.specs.Ends.{EndsAs, HasReadAll, IsRun, is_held}
use Rattle.crn_run.specs.Faults.{EndedUnused, IsEnded, IsEndedOn, found_end}
use Rattle.crn_run.specs.Gates.{AllPassed, AllPassedOrHeld, HeldAt, PassedOrHeld, PassedUpTo, SomeHeld, WasAsked}
use Rattle.crn_run.specs.Inner.Ends.{AllReached, HasEarly, IsEarlyEnd, is_short}
use Rattle.crn_run.specs.Jobs.{ring_spec}
use Rattle.crn_run.specs.Threads.{ComesFrom, ComesTo, FirstComeTo, FromOneRing, FromThreads}
use Rattle.crn_run.specs.Turns.{RunsByTurns}
use Rattle.crn_run.specs.Inner.Jobs.{IsDone, IsReady, AreEnds, AreJobs, AreStarted, Gathers, HasRun, HaveStarted}
use Rattle.crn_run.specs.declared.fault.ThreadFault.{ThreadFault}
use Rattle.crn_run.specs.Inner.Refusals.{RefusesEnds, RefusesRun}
use Rattle.crn_sequential.proofs.Growing.{HoldsOfEach, each-grown, slice_get_front, slice_get_last}
use Rattle.crn_sequential.proofs.Running.{same_of}

-- the job at place i of a stack for all policies, the first policy's on top
pub record JobFrom (s : ScenarioParts) (ring : Ring) (start : List Parts) (i : ℕ) (j : Job) : Type 0 where
  pub ready : IsReady s ring j
  pub policy : i + j.policy + 1 ≡ length s.policies
  pub state : slice_get start j.policy ≡ Some j.state

-- a fresh reader's job
pub job_from : (s : ScenarioParts) (ring : Ring) (start : List Parts) (from i r : ℕ) (j : Job) → IsCheckpointOf s from start → (spec_of ring).id.first ≡ from → IsFresh ring r j.reader
    → j.policy ≡ reader_number j.reader → i + (r + 1) ≡ length s.policies → slice_get start j.policy ≡ Some j.state → JobFrom s ring start i j
job_from s ring start from i r j checkpoint first fresh number place is_state =
    let number_is : reader_number j.reader ≡ r = fresh.1 in
    let taken : (reader_part j.reader).taken ≡ from = ap (λ (q : ReaderPart). q.taken) fresh.2 ∙ first in
    let running : (reader_part j.reader).seen_end ≡ false = ap (λ (q : ReaderPart). q.seen_end) fresh.2 in
    let stands : StandsBefore s.model from j.state = checkpoint.stand j.policy j.state is_state in
    record {
      ready = record {
        policy = omega (arith, number, number_is, place);
        reader = fresh.0;
        number = sym number;
        running = running;
        fresh = fresh.2;
        stands = subst (λ (n : ℕ). StandsBefore s.model n j.state) (sym taken) stands;
      };
      policy = omega (arith, number, number_is, place);
      state = is_state;
    }

-- an item of a list with one more: before the last, or the last
from_front : {X : Type 0} (xs : List X) (x y : X) (i : ℕ) → i < length xs → slice_get (xs ++ x ∷ []) i ≡ Some y → slice_get xs i ≡ Some y
from_front [] x y i lt is = absurd (omega (arith, lt))
from_front (z ∷ zs) x y zero lt is = is
from_front (z ∷ zs) x y (suc i) lt is = from_front zs x y i (omega (arith, lt)) is

from_last : {X : Type 0} (xs : List X) (x y : X) (i : ℕ) → i ≡ length xs → slice_get (xs ++ x ∷ []) i ≡ Some y → x ≡ y
from_last {X} xs x y i at is = same_of (slice_get (xs ++ x ∷ []) (length xs)) x y (slice_get_last xs x) (subst (λ (n : ℕ). slice_get (xs ++ x ∷ []) n ≡ Some y) at is)

module _ {G : Type 0} (refused : G → Bool) (asked : G → ℕ → ℕ → Bool → G → Type 0) (s : ScenarioParts) (ring : Ring) where
  -- no thread was started
  pub none_started : (jobs : List Job) (gates : List G) (ends : List PolicyEnd) → length ends ≡ 0 → 0 < length jobs → AreStarted refused asked s ring jobs gates ends
  none_started jobs gates ends none some = record {
    fewer = omega (arith, none, some);
    each = λ i k p j gate e place there is is_gate is_end. absurd (omega (arith, none, place));
  }

  -- of the threads that were started, one more
  one_started : (jobs : List Job) (gates : List G) (ends : List PolicyEnd) (j : Job) (gate : G) (e : PolicyEnd) → AreStarted refused asked s ring jobs gates ends → IsDone refused asked s ring j gate e
      → (i k p : ℕ) (q : Job) (g : G) (x : PolicyEnd) → i + k ≡ length ends → p + k ≡ length jobs → slice_get (jobs ++ j ∷ []) p ≡ Some q → slice_get (gate ∷ gates) k ≡ Some g
      → slice_get (ends ++ e ∷ []) i ≡ Some x → IsDone refused asked s ring q g x
  one_started jobs gates ends j gate e are last i zero p q g x place there is_job is_gate is_end =
      let its_job : j ≡ q = from_last jobs j q p (omega (arith, there)) is_job in
      let its_end : e ≡ x = from_last ends e x i (omega (arith, place)) is_end in
      let its_gate : gate ≡ g = same_of (Some gate) gate g refl is_gate in
      subst (λ (y : Job). IsDone refused asked s ring y g x) its_job (subst (λ (y : G). IsDone refused asked s ring j y x) its_gate (subst (λ (y : PolicyEnd). IsDone refused asked s ring j gate y) its_end last))
  one_started jobs gates ends j gate e are last i (suc k) p q g x place there is_job is_gate is_end =
      are.each i k p q g x (omega (arith, place)) (omega (arith, there)) (from_front jobs j q p (omega (arith, there)) is_job) is_gate (from_front ends e x i (omega (arith, place)) is_end)

  pub one_more_started : (jobs jobs' : List Job) (gates gates' : List G) (ends ends' : List PolicyEnd) (j : Job) (gate : G) (e : PolicyEnd) → jobs' ≡ jobs ++ j ∷ [] → gates' ≡ gate ∷ gates → ends' ≡ ends ++ e ∷ []
      → AreStarted refused asked s ring jobs gates ends → IsDone refused asked s ring j gate e → AreStarted refused asked s ring jobs' gates' ends'
  one_more_started jobs jobs' gates gates' ends ends' j gate e more_jobs more_gates more_ends are last =
      let jobs_longer : length jobs' ≡ length jobs + 1 = omega (arith, ap length more_jobs, length-append jobs (j ∷ [])) in
      let ends_longer : length ends' ≡ length ends + 1 = omega (arith, ap length more_ends, length-append ends (e ∷ [])) in
      record {
        fewer = omega (arith, are.fewer, jobs_longer, ends_longer);
        each = λ i k p q g x place there is_job is_gate is_end. one_started jobs gates ends j gate e are last i k p q g x (omega (arith, place, ends_longer)) (omega (arith, there, jobs_longer))
            (subst (λ (l : List Job). slice_get l p ≡ Some q) more_jobs is_job) (subst (λ (l : List G). slice_get l k ≡ Some g) more_gates is_gate) (subst (λ (l : List PolicyEnd). slice_get l i ≡ Some x) more_ends is_end);
      }

module _ {G : Type 0} (refused : G → Bool) (asked : G → ℕ → ℕ → Bool → G → Type 0) (s : ScenarioParts) (ring : Ring) where
  -- e is what the job at place i comes to
  abbrev EndAt : List Job → List G → ℕ → PolicyEnd → Type 0
  EndAt jobs gates i e = (k : ℕ) (j : Job) (gate : G) → i + k + 1 ≡ length jobs → slice_get jobs i ≡ Some j → slice_get gates k ≡ Some gate → IsDone refused asked s ring j gate e

  -- no job, no end
  pub no_ends : (jobs : List Job) (gates : List G) (ends : List PolicyEnd) → jobs ≡ [] → ends ≡ [] → length gates ≡ length jobs → AreEnds refused asked s ring jobs gates ends
  no_ends jobs gates ends no_job no_end counts = record {
    count = omega (arith, ap length no_job, ap length no_end);
    gate_count = counts;
    each = λ i k j gate e place is is_gate is_end. absurd (omega (arith, slice_get_within jobs i j is, ap length no_job));
  }

  -- an end that stood before one job more came on top
  older : (jobs : List Job) (gates : List G) (gate g : G) (i k : ℕ) (j : Job) (e : PolicyEnd) → EndAt jobs gates i e → i < length jobs → i + k + 1 ≡ length jobs + 1
      → slice_get jobs i ≡ Some j → slice_get (gate ∷ gates) k ≡ Some g → IsDone refused asked s ring j g e
  older jobs gates gate g i zero j e end inside place is is_gate = absurd (omega (arith, inside, place))
  older jobs gates gate g i (suc k) j e end inside place is is_gate = end k j g (omega (arith, place)) is is_gate

  newer : (gates : List G) (gate g : G) (k : ℕ) (j : Job) (e : PolicyEnd) → IsDone refused asked s ring j gate e → k ≡ 0 → slice_get (gate ∷ gates) k ≡ Some g → IsDone refused asked s ring j g e
  newer gates gate g zero j e done place is_gate = subst (λ (x : G). IsDone refused asked s ring j x e) (same_of (Some gate) gate g refl is_gate) done
  newer gates gate g (suc k) j e done place is_gate = absurd (omega (arith, place))

  -- one job and its end more
  pub one_more_end : (jobs jobs' : List Job) (gates gates' : List G) (ends ends' : List PolicyEnd) (j : Job) (gate : G) (e : PolicyEnd) → jobs' ≡ jobs ++ j ∷ [] → gates' ≡ gate ∷ gates → ends' ≡ ends ++ e ∷ []
      → AreEnds refused asked s ring jobs gates ends → IsDone refused asked s ring j gate e → AreEnds refused asked s ring jobs' gates' ends'
  one_more_end jobs jobs' gates gates' ends ends' j gate e more_jobs more_gates more_ends are last =
      let longer : length jobs' ≡ length jobs + 1 = omega (arith, ap length more_jobs, length-append jobs (j ∷ [])) in
      let place : slice_get jobs' (length jobs) ≡ Some j = subst (λ (l : List Job). slice_get l (length jobs) ≡ Some j) (sym more_jobs) (slice_get_last jobs j) in
      let before : HoldsOfEach (EndAt jobs' gates') ends =
      λ i x is_end k q g there is_job is_gate.
      let inside : i < length jobs = omega (arith, are.count, slice_get_within ends i x is_end) in
      let d : slice_get jobs i ≡ Some (get_or jobs i q) = slice_get-get_or jobs i q inside in
      let at_place : slice_get jobs' i ≡ Some (get_or jobs i q) =
      subst (λ (l : List Job). slice_get l i ≡ Some (get_or jobs i q)) (sym more_jobs) (slice_get_front jobs j (get_or jobs i q) i d) in
      let same : get_or jobs i q ≡ q = same_of (slice_get jobs' i) (get_or jobs i q) q at_place is_job in
      let was : slice_get jobs i ≡ Some q = subst (λ (y : Job). slice_get jobs i ≡ Some y) same d in
      let its : slice_get (gate ∷ gates) k ≡ Some g = subst (λ (l : List G). slice_get l k ≡ Some g) more_gates is_gate in
      older jobs gates gate g i k q x (λ k' j' gate' p is' is_gate'. are.each i k' j' gate' x p is' is_gate' is_end) inside (omega (arith, there, longer)) was its in
      let new : EndAt jobs' gates' (length ends) e =
      λ k q g there is_job is_gate.
      let at_place : slice_get jobs' (length jobs) ≡ Some q = subst (λ (n : ℕ). slice_get jobs' n ≡ Some q) are.count is_job in
      let same : j ≡ q = same_of (slice_get jobs' (length jobs)) j q place at_place in
      let its : slice_get (gate ∷ gates) k ≡ Some g = subst (λ (l : List G). slice_get l k ≡ Some g) more_gates is_gate in
      subst (λ (y : Job). IsDone refused asked s ring y g e) same (newer gates gate g k j e last (omega (arith, there, longer, are.count)) its) in
      let all : HoldsOfEach (EndAt jobs' gates') ends' = each-grown (EndAt jobs' gates') ends ends' e (length ends) more_ends (λ _. length ends) before new in
      record {
        count = omega (arith, are.count, longer, ap length more_ends, length-append ends (e ∷ []));
        gate_count = omega (arith, are.gate_count, longer, ap length more_gates);
        each = λ i k q g x there is_job is_gate is_end. all i x is_end k q g there is_job is_gate;
      }

-- what follows where there is a value, and from one fact more
pub with_value : {T E P L Q : Type 0} (r : Result T E) → (P → L → Q) → OnOk r P → L → OnOk r Q
with_value (Ok x) follows before last = follows before last
with_value (Err e) follows before last = before

pub with_error : {T E P L Q : Type 0} (r : Result T E) → (P → L → Q) → OnErr r P → L → OnErr r Q
with_error (Ok x) follows before last = before
with_error (Err e) follows before last = follows before last

-- ---- what is gathered from the ends

-- w, or x, at place k, is of the end that stands k places below the last
abbrev pub StateFrom : List PolicyEnd → ℕ → Parts → Type 0
StateFrom ends k w = (i : ℕ) → i + k + 1 ≡ length ends → (x : Reader) × (slice_get ends i ≡ Some (Reached w x))

abbrev pub ReaderFrom : List PolicyEnd → ℕ → Reader → Type 0
ReaderFrom ends k x = (i : ℕ) → i + k + 1 ≡ length ends → (w : Parts) × (slice_get ends i ≡ Some (Reached w x))

-- the end that is taken off next
pub state_from : (ends : List PolicyEnd) (k at : ℕ) (w : Parts) (x : Reader) → k + (at + 1) ≡ length ends → slice_get ends at ≡ Some (Reached w x) → StateFrom ends k w
state_from ends k at w x place is i eq = (x, subst (λ (n : ℕ). slice_get ends n ≡ Some (Reached w x)) (omega (arith, place, eq)) is)

pub reader_from : (ends : List PolicyEnd) (k at : ℕ) (w : Parts) (x : Reader) → k + (at + 1) ≡ length ends → slice_get ends at ≡ Some (Reached w x) → ReaderFrom ends k x
reader_from ends k at w x place is i eq = (w, subst (λ (n : ℕ). slice_get ends n ≡ Some (Reached w x)) (omega (arith, place, eq)) is)

-- ---- all policies' runs

pub item_at : {X : Type 0} (xs : List X) (i : ℕ) → i < length xs → (x : X) × (slice_get xs i ≡ Some x)
item_at [] i lt = absurd (omega (arith, lt))
item_at (x ∷ xs) zero lt = (x, refl)
item_at (x ∷ xs) (suc i) lt = item_at xs i (omega (arith, lt))

-- the place of policy k's job on the stack
place_of : (k n : ℕ) → k < n → (i : ℕ) × (i + k + 1 ≡ n)
place_of k zero lt = absurd (omega (arith, lt))
place_of zero (suc n) lt = (n, omega arith)
place_of (suc k) (suc n) lt =
    let below : (i : ℕ) × (i + k + 1 ≡ n) = place_of k n (omega (arith, lt)) in
    (below.0, omega (arith, below.1))

-- ---- what the threads come to, by policies

same_reader : (w u : Parts) (y x : Reader) → Reached w y ≡ Reached u x → y ≡ x
same_reader w u y x e = cc

module _ {G : Type 0} (refused : G → Bool) (asked : G → ℕ → ℕ → Bool → G → Type 0) (s : ScenarioParts) (ring : Ring) where
  -- what a job comes to, by its policy
  thread_of : (j : Job) (k : ℕ) (v : Parts) (gate : G) (e : PolicyEnd) → IsReady s ring j → j.policy ≡ k → j.state ≡ v → IsDone refused asked s ring j gate e → ComesTo refused asked s ring k v gate e
  thread_of j k v gate e ready policy state d = record {
    ends = subst (λ (u : Parts). EndsAs s k u ring k e) state (subst (λ (n : ℕ). EndsAs s n j.state ring n e) policy d.ends);
    turns = subst (λ (q : ReaderPart). RunsByTurns (spec_of ring) q e) ready.fresh d.turns;
    gate' = d.gate';
    was_asked = subst (λ (u : Parts). WasAsked asked k (next_block u) e gate d.gate') state (subst (λ (n : ℕ). WasAsked asked n (next_block j.state) e gate d.gate') policy d.was_asked);
    held = d.held;
  }

  module _ (start : List Parts) (jobs : List Job) (gates : List G) (ends : List PolicyEnd) (are_jobs : AreJobs s ring start jobs) where
    -- of the threads that were started before one failed to
    of_started : AreStarted refused asked s ring jobs gates ends → FirstComeTo refused asked s ring start gates ends
    of_started are = record {
      each = λ i k e v gate place is is_state is_gate.
          let there : (p : ℕ) × (p + k + 1 ≡ length jobs) = place_of k (length jobs) (omega (arith, place, are.fewer)) in
          let it : (j : Job) × (slice_get jobs there.0 ≡ Some j) = item_at jobs there.0 (omega (arith, there.1)) in
          let j : Job = it.0 in
          let policy : j.policy ≡ k = omega (arith, there.1, are_jobs.policies there.0 j it.1, are_jobs.count) in
          let begins : slice_get start k ≡ Some j.state = subst (λ (n : ℕ). slice_get start n ≡ Some j.state) policy (are_jobs.states there.0 j it.1) in
          thread_of j k v gate e (are_jobs.ready there.0 j it.1) policy (same_of (slice_get start k) j.state v begins is_state) (are.each i k there.0 j gate e place there.1 it.1 is_gate is);
    }

    -- of all
    pub of_all : AreEnds refused asked s ring jobs gates ends → FirstComeTo refused asked s ring start gates ends
    of_all are = record {
      each = λ i k e v gate place is is_state is_gate.
          let it : (j : Job) × (slice_get jobs i ≡ Some j) = item_at jobs i (omega (arith, place, are.count)) in
          let j : Job = it.0 in
          let policy : j.policy ≡ k = omega (arith, place, are.count, are_jobs.policies i j it.1, are_jobs.count) in
          let begins : slice_get start k ≡ Some j.state = subst (λ (n : ℕ). slice_get start n ≡ Some j.state) policy (are_jobs.states i j it.1) in
          thread_of j k v gate e (are_jobs.ready i j it.1) policy (same_of (slice_get start k) j.state v begins is_state) (are.each i k j gate e (place ∙ are.count) it.1 is_gate is);
    }

    -- the states and readers that are gathered
    pub from_one_ring : (states : List Parts) (readers : List Reader) (first upto : ℕ) → spec_of ring ≡ ring_spec s first upto → AreEnds refused asked s ring jobs gates ends → Gathers ends states readers
        → FromOneRing refused asked s first upto start gates states readers
    from_one_ring states readers first upto opened are gathers = record {
      ring = ring;
      spec = opened;
      each = λ k v w gate x is_state is_gate is is_reader.
          let there : (i : ℕ) × (i + k + 1 ≡ length ends) = place_of k (length ends) (omega (arith, gathers.state_count, slice_get_within states k w is)) in
          let of_state : (y : Reader) × (slice_get ends there.0 ≡ Some (Reached w y)) = gathers.states_of k w is there.0 there.1 in
          let of_reader : (u : Parts) × (slice_get ends there.0 ≡ Some (Reached u x)) = gathers.readers_of k x is_reader there.0 there.1 in
          let same : of_state.0 ≡ x = same_reader w of_reader.0 of_state.0 x (same_of (slice_get ends there.0) (Reached w of_state.0) (Reached of_reader.0 x) of_state.1 of_reader.1) in
          let is_end : slice_get ends there.0 ≡ Some (Reached w x) = subst (λ (y : Reader). slice_get ends there.0 ≡ Some (Reached w y)) same of_state.1 in
          (of_all are).each there.0 k (Reached w x) v gate there.1 is_end is_state is_gate;
    }

  -- why there is no result where a thread failed to start
  pub threads_started : (start : List Parts) (jobs : List Job) (gates : List G) (f : ThreadFault) → AreJobs s ring start jobs → found_end f.cause ≡ None → HaveStarted refused asked s ring jobs gates
      → FromThreads refused asked s ring start gates (found_end f.cause)
  threads_started start jobs gates f are_jobs none have =
      let fewer : length have.ends < length s.policies = omega (arith, have.started.fewer, are_jobs.count) in
      subst (FromThreads refused asked s ring start gates) (sym none) (record {
        ends = have.ends;
        threads = of_started start jobs gates have.ends are_jobs have.started;
        fault = fewer;
      })

  -- where a reader found the end early
  pub short_of : (ends : List PolicyEnd) (i : ℕ) (f : ThreadFault) (e : PolicyEnd) → length ends ≡ length s.policies → slice_get ends i ≡ Some e → IsEarlyEnd f e → ComesFrom s (found_end f.cause) ends
  short_of ends i f (Reached w x) count is early = absurd early
  short_of ends i f (Short n w x) count is early =
      subst (λ (o : Option ℕ). ComesFrom s o ends) (sym early) (count, record { place = i; state = w; reader = x; is_end = is })
  short_of ends i f (Held w x) count is early = absurd early

-- policy number k's state of `start` has become w
pub record RunFrom (s : ScenarioParts) (start : List Parts) (upto k : ℕ) (w : Parts) : Type 0 where
  pub begun : Parts
  pub begins : slice_get start k ≡ Some begun
  pub run : IsRun s k begun upto w

-- ---- how the runs have ended, all together

-- what holds of one end holds of some
pub some_end : (test : PolicyEnd → Bool) (ends : List PolicyEnd) (i : ℕ) (e : PolicyEnd) → slice_get ends i ≡ Some e → test e ≡ true → list_any test ends ≡ true
some_end test ends i e is holds = list_any_at test ends i e (slice_get_within ends i e is) (ap test (get_or_from_slice_get ends i e e is) ∙ holds)

not_true : (b : Bool) → b ≢ true → b ≡ false
not_true true other = absurd (other refl)
not_true false other = refl

-- what holds of none does not hold of one
pub never_any : (test : PolicyEnd → Bool) (ends : List PolicyEnd) (i : ℕ) (e : PolicyEnd) → list_any test ends ≡ false → slice_get ends i ≡ Some e → test e ≡ false
never_any test ends i e none is = not_true (test e) (λ holds. false≢true (sym none ∙ some_end test ends i e is holds))

reached_one : (e : PolicyEnd) → is_short e ≡ false → is_held e ≡ false → (w : Parts) × (x : Reader) × (e ≡ Reached w x)
reached_one (Reached w x) whole free = (w, x, refl)
reached_one (Short n w x) whole free = absurd (false≢true (sym whole))
reached_one (Held w x) whole free = absurd (false≢true (sym free))

-- where all have reached the end, so has each
pub reached_end : (ends : List PolicyEnd) (i : ℕ) (e : PolicyEnd) → AllReached ends → slice_get ends i ≡ Some e → (w : Parts) × (x : Reader) × (e ≡ Reached w x)
reached_end ends i e all is = reached_one e (never_any is_short ends i e all.0 is) (never_any is_held ends i e all.1 is)

-- one that a gate has held
held_place : (ends : List PolicyEnd) → list_any is_held ends ≡ true → (i : ℕ) × (e : PolicyEnd) × (slice_get ends i ≡ Some e) × (is_held e ≡ true)
held_place [] any = absurd (false≢true any)
held_place (Reached w x ∷ ends) any = let rest = held_place ends any in (suc rest.0, rest.1, rest.2, rest.3)
held_place (Short n w x ∷ ends) any = let rest = held_place ends any in (suc rest.0, rest.1, rest.2, rest.3)
held_place (Held w x ∷ ends) any = (0, Held w x, refl, refl)

-- e is the end of policy number k's run from its state of `start`, under its gate
pub record EndOf {G : Type 0} (refused : G → Bool) (asked : G → ℕ → ℕ → Bool → G → Type 0) (s : ScenarioParts) (ring : Ring) (start : List Parts) (gates : List G) (k : ℕ) (e : PolicyEnd) : Type 0 where
  pub job : Job
  pub policy : job.policy ≡ k
  pub begins : slice_get start k ≡ Some job.state
  pub gate : G
  pub is_gate : slice_get gates k ≡ Some gate
  pub done : IsDone refused asked s ring job gate e

module _ {G : Type 0} (refused : G → Bool) (asked : G → ℕ → ℕ → Bool → G → Type 0) (s : ScenarioParts) (ring : Ring) (start : List Parts) (jobs : List Job) (gates : List G) (ends : List PolicyEnd)
    (are_jobs : AreJobs s ring start jobs) (are_ends : AreEnds refused asked s ring jobs gates ends) where
  pub end_of : (i k : ℕ) (e : PolicyEnd) → i + k + 1 ≡ length s.policies → slice_get ends i ≡ Some e → EndOf refused asked s ring start gates k e
  end_of i k e place is =
      let there : (j : Job) × (slice_get jobs i ≡ Some j) = item_at jobs i (omega (arith, are_ends.count, slice_get_within ends i e is)) in
      let j : Job = there.0 in
      let same : j.policy ≡ k = omega (arith, are_jobs.policies i j there.1, place) in
      let its : (g : G) × (slice_get gates k ≡ Some g) = item_at gates k (omega (arith, are_ends.gate_count, are_jobs.count, place)) in
      record {
        job = j;
        policy = same;
        begins = subst (λ (n : ℕ). slice_get start n ≡ Some j.state) same (are_jobs.states i j there.1);
        gate = its.0;
        is_gate = its.1;
        done = are_ends.each i k j its.0 e (place ∙ sym are_jobs.count) there.1 its.1 is;
      }

  pub ends_as_told : (k : ℕ) (e : PolicyEnd) (o : EndOf refused asked s ring start gates k e) → EndsAs s k o.job.state ring k e
  ends_as_told k e o = subst (λ (n : ℕ). EndsAs s n o.job.state ring n e) o.policy o.done.ends

  -- the end of policy number k
  policy_end : (k : ℕ) → k < length s.policies → (e : PolicyEnd) × (i : ℕ) × (slice_get ends i ≡ Some e) × (i + k + 1 ≡ length s.policies)
  policy_end k lt =
      let at : (i : ℕ) × (i + k + 1 ≡ length s.policies) = place_of k (length s.policies) lt in
      let it : (e : PolicyEnd) × (slice_get ends at.0 ≡ Some e) = item_at ends at.0 (omega (arith, at.1, are_ends.count, are_jobs.count)) in
      (it.0, at.0, it.1, at.1)

  module _ (upto : ℕ) (total : (spec_of ring).id.total ≡ upto) where
    pub run_from : (states : List Parts) (readers : List Reader) → Gathers ends states readers → (k : ℕ) (w : Parts) → slice_get states k ≡ Some w → RunFrom s start upto k w
    run_from states readers gathers k w is =
        let count : length ends ≡ length s.policies = are_ends.count ∙ are_jobs.count in
        let where_to : (i : ℕ) × (i + k + 1 ≡ length s.policies) = place_of k (length s.policies) (omega (arith, count, gathers.state_count, slice_get_within states k w is)) in
        let of_end : (x : Reader) × (slice_get ends where_to.0 ≡ Some (Reached w x)) = gathers.states_of k w is where_to.0 (where_to.1 ∙ sym count) in
        let o : EndOf refused asked s ring start gates k (Reached w of_end.0) = end_of where_to.0 k (Reached w of_end.0) where_to.1 of_end.1 in
        record { begun = o.job.state; begins = o.begins; run = subst (λ (n : ℕ). IsRun s k o.job.state n w) total (ends_as_told k (Reached w of_end.0) o).0 }

    pub read_from : (states : List Parts) (readers : List Reader) → Gathers ends states readers → (k : ℕ) (x : Reader) → slice_get readers k ≡ Some x → HasReadAll ring k upto x
    read_from states readers gathers k x is =
        let count : length ends ≡ length s.policies = are_ends.count ∙ are_jobs.count in
        let where_to : (i : ℕ) × (i + k + 1 ≡ length s.policies) = place_of k (length s.policies) (omega (arith, count, gathers.reader_count, slice_get_within readers k x is)) in
        let of_end : (w : Parts) × (slice_get ends where_to.0 ≡ Some (Reached w x)) = gathers.readers_of k x is where_to.0 (where_to.1 ∙ sym count) in
        let o : EndOf refused asked s ring start gates k (Reached of_end.0 x) = end_of where_to.0 k (Reached of_end.0 x) where_to.1 of_end.1 in
        subst (λ (n : ℕ). HasReadAll ring k n x) total (ends_as_told k (Reached of_end.0 x) o).1

    -- what its gate was asked, by the number of its first block
    asked_from : (first k : ℕ) (e : PolicyEnd) → IsCheckpointOf s first start → (o : EndOf refused asked s ring start gates k e) → WasAsked asked k first e o.gate o.done.gate'
    asked_from first k e checkpoint o =
        let next : next_block o.job.state ≡ first = (checkpoint.stand k o.job.state o.begins).next in
        subst (λ (n : ℕ). WasAsked asked k n e o.gate o.done.gate') next (subst (λ (n : ℕ). WasAsked asked n (next_block o.job.state) e o.gate o.done.gate') o.policy o.done.was_asked)

    passed_to : (first k : ℕ) (e : PolicyEnd) → IsCheckpointOf s first start → EndOf refused asked s ring start gates k e → is_short e ≡ false → is_held e ≡ false
        → (gate : G) → slice_get gates k ≡ Some gate → (gate' : G) × PassedUpTo asked k first upto gate gate' × (refused gate' ≡ false)
    passed_to first k (Reached w x) checkpoint o whole free gate is_gate =
        let same : o.gate ≡ gate = same_of (slice_get gates k) o.gate gate o.is_gate is_gate in
        let there : next_block w ≡ upto = (ends_as_told k (Reached w x) o).0.stands.next ∙ total in
        let passed : PassedUpTo asked k first (next_block w) o.gate o.done.gate' = asked_from first k (Reached w x) checkpoint o in
        (o.done.gate', subst (λ (g : G). PassedUpTo asked k first upto g o.done.gate') same (subst (λ (n : ℕ). PassedUpTo asked k first n o.gate o.done.gate') there passed), o.done.held)
    passed_to first k (Short n w x) checkpoint o whole free gate is_gate = absurd (false≢true (sym whole))
    passed_to first k (Held w x) checkpoint o whole free gate is_gate = absurd (false≢true (sym free))

    -- where all have reached the end, each gate has passed all blocks
    pub all_passed : (first : ℕ) → IsCheckpointOf s first start → AllReached ends → AllPassed refused asked first upto gates
    all_passed first checkpoint reached k gate is_gate =
        let at = policy_end k (omega (arith, are_ends.gate_count, are_jobs.count, slice_get_within gates k gate is_gate)) in
        passed_to first k at.0 checkpoint (end_of at.1 k at.0 at.3 at.2) (never_any is_short ends at.1 at.0 reached.0 at.2) (never_any is_held ends at.1 at.0 reached.1 at.2) gate is_gate

    -- an end that came early, of a reader of the ring
    ended_of : (k : ℕ) (f : ThreadFault) (e : PolicyEnd) → EndOf refused asked s ring start gates k e → IsEarlyEnd f e → IsEndedOn ring upto (found_end f.cause)
    ended_of k f (Reached w x) o early = absurd early
    ended_of k f (Short n w x) o early =
        let told = ends_as_told k (Short n w x) o in
        subst (IsEndedOn ring upto) (sym early) (record {
          number = k;
          reader = x;
          read = told.2;
          early = subst (λ (m : ℕ). n < m) total told.0;
        })
    ended_of k f (Held w x) o early = absurd early

    pub some_early : (f : ThreadFault) → HasEarly f ends → IsEndedOn ring upto (found_end f.cause)
    some_early f h =
        let at : (k : ℕ) × (k + h.place + 1 ≡ length s.policies) = place_of h.place (length s.policies) (omega (arith, are_ends.count, are_jobs.count, slice_get_within ends h.place h.end h.is_end)) in
        ended_of at.0 f h.end (end_of h.place at.0 h.end (omega (arith, at.1)) h.is_end) h.early

    held_of : (first k : ℕ) (e : PolicyEnd) → IsCheckpointOf s first start → EndOf refused asked s ring start gates k e → is_held e ≡ true → SomeHeld refused asked first upto gates
    held_of first k (Reached w x) checkpoint o held = absurd (false≢true held)
    held_of first k (Short n w x) checkpoint o held = absurd (false≢true held)
    held_of first k (Held w x) checkpoint o held = record {
      policy = k;
      gate = o.gate;
      gate' = o.done.gate';
      is_gate = o.is_gate;
      block = next_block w;
      below = subst (λ (m : ℕ). next_block w < m) total (ends_as_told k (Held w x) o).0;
      held = asked_from first k (Held w x) checkpoint o;
      has_refused = o.done.held;
    }

    pub some_held : (first : ℕ) → IsCheckpointOf s first start → list_any is_held ends ≡ true → SomeHeld refused asked first upto gates
    some_held first checkpoint any =
        let it : (i : ℕ) × (e : PolicyEnd) × (slice_get ends i ≡ Some e) × (is_held e ≡ true) = held_place ends any in
        let at : (k : ℕ) × (k + it.0 + 1 ≡ length s.policies) = place_of it.0 (length s.policies) (omega (arith, are_ends.count, are_jobs.count, slice_get_within ends it.0 it.1 it.2)) in
        held_of first at.0 it.1 checkpoint (end_of it.0 at.0 it.1 (omega (arith, at.1)) it.2) it.3

    passed_or_held : (first k : ℕ) (e : PolicyEnd) → IsCheckpointOf s first start → EndOf refused asked s ring start gates k e → is_short e ≡ false → (gate : G) → slice_get gates k ≡ Some gate → PassedOrHeld refused asked k first upto gate
    passed_or_held first k (Reached w x) checkpoint o whole gate is_gate =
        let passed = passed_to first k (Reached w x) checkpoint o whole refl gate is_gate in
        record { gate' = passed.0; passed = λ _. passed.1; held = λ is. absurd (false≢true (sym passed.2 ∙ is)) }
    passed_or_held first k (Short n w x) checkpoint o whole gate is_gate = absurd (false≢true (sym whole))
    passed_or_held first k (Held w x) checkpoint o whole gate is_gate =
        let same : o.gate ≡ gate = same_of (slice_get gates k) o.gate gate o.is_gate is_gate in
        let below : next_block w < upto = subst (λ (m : ℕ). next_block w < m) total (ends_as_told k (Held w x) o).0 in
        let held : HeldAt asked k first (next_block w) gate o.done.gate' = subst (λ (g : G). HeldAt asked k first (next_block w) g o.done.gate') same (asked_from first k (Held w x) checkpoint o) in
        record { gate' = o.done.gate'; passed = λ is. absurd (false≢true (sym is ∙ o.done.held)); held = λ _. (next_block w, below, held) }

    -- where none has found an early end, each gate has passed all blocks or held its policy
    all_passed_or_held : (first : ℕ) → IsCheckpointOf s first start → list_any is_short ends ≡ false → AllPassedOrHeld refused asked first upto gates
    all_passed_or_held first checkpoint whole k gate is_gate =
        let at = policy_end k (omega (arith, are_ends.gate_count, are_jobs.count, slice_get_within gates k gate is_gate)) in
        passed_or_held first k at.0 checkpoint (end_of at.1 k at.0 at.3 at.2) (never_any is_short ends at.1 at.0 whole at.2) gate is_gate

    -- why the run has no result, by its ends
    pub of_ends : (first : ℕ) (e : RunFault) → IsCheckpointOf s first start → RefusesEnds ends e → RefusesRun refused asked s ring first upto start gates e
    of_ends first (Thread f) checkpoint h = (
      some_early f h,
      record {
        ends = ends;
        threads = of_all refused asked s ring start jobs gates ends are_jobs are_ends;
        fault = short_of refused asked s ring ends h.place f h.end (are_ends.count ∙ are_jobs.count) h.is_end h.early;
      },
    )
    of_ends first Gate checkpoint h = (some_held first checkpoint h.1, all_passed_or_held first checkpoint h.0)
    of_ends first (Memory refused) checkpoint h = absurd h

-- so the states are a checkpoint at `upto`, with the facts of each policy's run
pub checkpoint_of : (s : ScenarioParts) (start states : List Parts) (upto : ℕ) → length states ≡ length s.policies → ((k : ℕ) (w : Parts) → slice_get states k ≡ Some w → RunFrom s start upto k w) → IsCheckpointOf s upto states
checkpoint_of s start states upto count each = record { count = count; stand = λ k w is. (each k w is).run.stands }

pub each_onward : (s : ScenarioParts) (start states : List Parts) (upto : ℕ) → ((k : ℕ) (w : Parts) → slice_get states k ≡ Some w → RunFrom s start upto k w) → EachOnward s start upto states
each_onward s start states upto each k p v w is_policy begins is =
    let r : RunFrom s start upto k w = each k w is in
    subst (λ (u : Parts). OnwardAt s.model p s.key u upto w) (same_of (slice_get start k) r.begun v r.begins begins) (r.run.onward p is_policy)

-- ---- the whole run

pub has_run : {G : Type 0} (refused : G → Bool) (asked : G → ℕ → ℕ → Bool → G → Type 0) (s : ScenarioParts) (ring : Ring) (start : List Parts) (first upto next : ℕ) (jobs : List Job) (gates : List G)
    (ends : List PolicyEnd) (states : List Parts) (readers : List Reader)
    → next ≡ upto → spec_of ring ≡ ring_spec s first upto → IsCheckpointOf s first start → AreJobs s ring start jobs → AreEnds refused asked s ring jobs gates ends → Gathers ends states readers → HasRun s first start upto next states readers
has_run refused asked s ring start first upto next jobs gates ends states readers there opened checkpoint are_jobs are_ends gathers =
    let total : (spec_of ring).id.total ≡ upto = ap (λ (r : RingSpec). r.id.total) opened in
    let from = run_from refused asked s ring start jobs gates ends are_jobs are_ends upto total states readers gathers in record {
      next_is = there;
      of_scenario = checkpoint_of s start states upto (gathers.state_count ∙ are_ends.count ∙ are_jobs.count) from;
      onward = each_onward s start states upto from;
      read = record {
        ring = ring;
        spec = opened;
        count = gathers.reader_count ∙ are_ends.count ∙ are_jobs.count;
        each = read_from refused asked s ring start jobs gates ends are_jobs are_ends upto total states readers gathers;
      };
    }

-- what follows of an answer from the run that it is
pub of_run : (s : ScenarioParts) (first : ℕ) (start : List Parts) (upto : ℕ) (r : Result Finished RunFault) (Q : Finished → Type 0)
    → ((f : Finished) → HasRun s first start upto f.checkpoint.next f.checkpoint.states.items f.readers.items → Q f)
    → IfOk r (λ f. HasRun s first start upto f.checkpoint.next f.checkpoint.states.items f.readers.items) → IfOk r Q
of_run s first start upto (Ok f) Q gives h = gives f h
of_run s first start upto (Err e) Q gives h = h

-- the end of a run whose reader has seen the end of the ring after the blocks below n
pub ends_as : (s : ScenarioParts) (k : ℕ) (v : Parts) (ring : Ring) (r n : ℕ) (w : Parts) (x : Reader) (e : PolicyEnd) → IsRun s k v n w → HasReadAll ring r n x → n ≤ (spec_of ring).id.total
    → (n ≡ (spec_of ring).id.total → e ≡ Reached w x) → (n ≢ (spec_of ring).id.total → e ≡ Short n w x) → EndsAs s k v ring r e
ends_as s k v ring r n w x e run read within total early =
    dite (ℕ_discrete n (spec_of ring).id.total)
    (λ is. subst (EndsAs s k v ring r) (sym (total is)) (subst (λ (m : ℕ). IsRun s k v m w) is run, subst (λ (m : ℕ). HasReadAll ring r m x) is read))
    (λ not. subst (EndsAs s k v ring r) (sym (early not)) (omega (arith, within, not), run, read))

-- why it has no result where a thread failed to start
pub ended_unused : (ring : Ring) (upto : ℕ) (f : ThreadFault) → found_end f.cause ≡ None → EndedUnused ring → IsEndedOn ring upto (found_end f.cause)
ended_unused ring upto f none unused = subst (IsEndedOn ring upto) (sym none) unused

-- what is told of an answer on either side
pub on_ok : {T E : Type 0} (r : Result T E) (A : Type 0) (B : E → Type 0) → MatchResult r (λ _. A) B → OnOk r A
on_ok (Ok x) A B h = h
on_ok (Err e) A B h = tt

pub on_err : {T E : Type 0} (r : Result T E) (A : T → Type 0) (B : E → Type 0) → MatchResult r A B → IfErr r B
on_err (Ok x) A B h = tt
on_err (Err e) A B h = h

module _ {G : Type 0} (refused : G → Bool) (asked : G → ℕ → ℕ → Bool → G → Type 0) (s : ScenarioParts) (ring : Ring) (first upto : ℕ) (start : List Parts) (gates : List G) where
  pub told_thread : {T : Type 0} (f : ThreadFault) (r : Result T RunFault) → spec_of ring ≡ ring_spec s first upto → r ≡ Err (Thread f)
      → IfErr r (λ e. RefusesRun refused asked s ring first upto start gates e) → IsEnded refused asked s first upto start gates (found_end f.cause)
  told_thread {T} f r opened is h =
      let told : IsEndedOn ring upto (found_end f.cause) × FromThreads refused asked s ring start gates (found_end f.cause) =
      subst (λ (x : Result T RunFault). IfErr x (λ e. RefusesRun refused asked s ring first upto start gates e)) is h in
      record { ring = ring; spec = opened; ended = told.0; threads = told.1 }

  pub told_gate : (e : RunFault) → e ≡ Gate → RefusesRun refused asked s ring first upto start gates e → SomeHeld refused asked first upto gates × AllPassedOrHeld refused asked first upto gates
  told_gate e is h = subst (λ (x : RunFault). RefusesRun refused asked s ring first upto start gates x) is h

-- what the gate was asked in a run that its reader has seen the end of
pub asked_whole : {G : Type 0} (asked : G → ℕ → ℕ → Bool → G → Type 0) (k from n all : ℕ) (g g' : G) (w : Parts) (x : Reader) (e : PolicyEnd) → (n ≡ all → e ≡ Reached w x) → (n ≢ all → e ≡ Short n w x)
    → PassedUpTo asked k from (next_block w) g g' → WasAsked asked k from e g g'
asked_whole {G} asked k from n all g g' w x e total early passed =
    dite (ℕ_discrete n all)
    (λ is. subst (λ (d : PolicyEnd). WasAsked asked k from d g g') (sym (total is)) passed)
    (λ not. subst (λ (d : PolicyEnd). WasAsked asked k from d g g') (sym (early not)) passed)

-- ---- ends that are looked at one by one

pub none_further : (ends : List PolicyEnd) (i : ℕ) (end : PolicyEnd) → slice_get ends i ≡ Some end → is_short end ≡ false
    → ((k : ℕ) (e : PolicyEnd) → k < i → slice_get ends k ≡ Some e → is_short e ≡ false) → (k : ℕ) (e : PolicyEnd) → k < i + 1 → slice_get ends k ≡ Some e → is_short e ≡ false
none_further ends i end is whole before k e below at =
    dite (ℕ_discrete k i)
    (λ same. ap is_short (same_of (slice_get ends i) e end (subst (λ (n : ℕ). slice_get ends n ≡ Some e) same at) is) ∙ whole)
    (λ other. before k e (omega (arith, below, other)) at)

pub none_any : (ends : List PolicyEnd) → ((k : ℕ) (e : PolicyEnd) → slice_get ends k ≡ Some e → is_short e ≡ false) → list_any is_short ends ≡ false
none_any [] none = refl
none_any (Reached w x ∷ ends) none = none_any ends (λ k. none (suc k))
none_any (Short n w x ∷ ends) none = absurd (false≢true (sym (none 0 (Short n w x) refl)))
none_any (Held w x ∷ ends) none = none_any ends (λ k. none (suc k))

-- a fault that is handed on
pub handed_told : {T E : Type 0} (r : Result T E) (e : E) (A : T → Type 0) (P : E → Type 0) → IsErr r × IsErrAnd r (λ f. f ≡ e) → P e → MatchResult r A P
handed_told (Ok x) e A P h holds = absurd (cc h.0)
handed_told (Err f) e A P h holds = subst P (sym h.1) holds

pub handed_err : {T E : Type 0} (r : Result T E) (e : E) (P : E → Type 0) → IsErr r × IsErrAnd r (λ f. f ≡ e) → P e → IfErr r P
handed_err {T} r e P h holds = on_err r (λ (_ : T). ⊤) P (handed_told r e (λ _. ⊤) P h holds)

pub handed_on : {T E : Type 0} (r : Result T E) (P : Type 0) → P → OnErr r P
handed_on (Ok x) P holds = tt
handed_on (Err f) P holds = holds
