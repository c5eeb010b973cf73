-- One more step of a replay.
use Rattle.std.proofs.Common.{◌≡◌, ℕ, ◌+◌, ◌<◌, ◌||◌, not, List, ◌∷◌, ◌++◌, length, take, drop, get_or, set, Option, refl, ap, ◌∙◌, arith, ◌==◌, nat_lt}
use Rattle.crn_cipher.specs.declared.TheConstants.{BLOCK_WORDS}
use Rattle.std.proofs.lemmas.Bool.{cond_both}
use Rattle.std.proofs.lemmas.List.{drop_more, take_more_set, append_assoc}
use Rattle.crn_proto.specs.declared.schedule.Actor.{Actor}
use Rattle.crn_proto.specs.declared.schedule.Actor.TheVariants.{Producer, Finish, Reader, Leave}
use Rattle.crn_proto.specs.declared.schedule.Step.{Step}
use Rattle.crn_proto.specs.Machine.{MachineState, Outcome, machine_after, machine_answers, machine_steps, producer_steps, finish_steps, reader_steps, leave_steps, taker_at}

-- the step is of the same ring
abbrev Same : MachineState → Outcome → Type 0
Same m out = out.0.spec ≡ m.spec

pub same_spec : (m : MachineState) (who : Actor) → (machine_steps m who).0.spec ≡ m.spec
unfolding producer_steps finish_steps reader_steps leave_steps
same_spec m Producer =
    cond_both m.ended _ _ (Same m) (λ e. refl)
    (λ e. cond_both (m.published == m.spec.id.total) _ _ (Same m) (λ e. refl)
    (λ e. cond_both (nat_lt m.passed m.spec.readers) _ _ (Same m) (λ e. refl)
    (λ e. cond_both (nat_lt m.stored BLOCK_WORDS) _ _ (Same m) (λ e. refl) (λ e. refl))))
same_spec m Finish = cond_both (m.ended || (not (m.passed == 0)) || (not (m.stored == 0))) _ _ (Same m) (λ e. refl) (λ e. refl)
same_spec m (Reader r) =
    cond_both ((taker_at m r).left || (taker_at m r).seen_end) _ _ (Same m) (λ e. refl)
    (λ e. cond_both (not (taker_at m r).reading) _ _ (Same m) (λ e. refl)
    (λ e. cond_both (nat_lt (taker_at m r).read BLOCK_WORDS) _ _ (Same m) (λ e. refl) (λ e. refl)))
same_spec m (Leave r) = cond_both ((taker_at m r).left || (taker_at m r).reading) _ _ (Same m) (λ e. refl) (λ e. refl)

pub replay_more : (m next : MachineState) (actors : List Actor) (i : ℕ) (who : Actor) (answer : Option Step) (answers : List (Option Step)) → i < length actors → length answers ≡ length actors
    → get_or actors i who ≡ who → next ≡ (machine_steps m who).0 → answer ≡ (machine_steps m who).1
    → (next.spec ≡ m.spec) × (machine_after next (drop (i + 1) actors) ≡ machine_after m (drop i actors))
    × (take (i + 1) (set answers i answer) ++ machine_answers next (drop (i + 1) actors) ≡ take i answers ++ machine_answers m (drop i actors))
replay_more m next actors i who answer answers h n at is gives =
    let within : i < length answers = omega arith in
    let first : drop i actors ≡ who ∷ drop (i + 1) actors = rw at at (drop_more actors i who h) in
    (ap (λ x. x.spec) is ∙ same_spec m who, rw (first, is) refl, rw (first, take_more_set, append_assoc, is, gives) refl)
