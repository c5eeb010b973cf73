-- What a fault tells, handed on from one step of an engine to the next.
use Rattle.std.proofs.Common.{◌≡◌, ◌≢◌, ℕ, List, Option, Result, Ok, Err, IfErr, false, inr, refl, subst}
use Rattle.crn_stock.specs.Models.{total, ScenarioParts}
use Rattle.crn_stock.specs.Parts.{Parts}
use Rattle.crn_engines.specs.declared.fault.Fault.{Fault}
use Rattle.crn_engines.specs.declared.fault.Fault.TheVariants as fault
use Rattle.crn_engines.specs.declared.output.WriteFault.{WriteFault}
use Rattle.crn_run.specs.declared.fault.ThreadFault.{ThreadFault}
use Rattle.std.specs.declared.alloc.AllocError.{AllocError}
use Rattle.crn_checkpoint.specs.Reading.{IsTextOf}
use Rattle.crn_engines.specs.Bytes.{ReadAll}
use Rattle.crn_engines.specs.Inputs.{HasScenario, ReadScenario}
use Rattle.crn_engines.specs.Commands.{HasEnough, MadeLeg, RefusesLeg, RefusesMigrate, RefusesReplay, HasCheckpoint, MadeResumed, RefusesResume, MadeReport, RefusesLanes, RefusesSimulation, is_writing}
use Rattle.crn_engines.specs.Refusals.{RefusesOutput, RefusesScenarioInput}
use Rattle.crn_engines.specs.Inner.Refusals.{RefusesLegRun, RefusesOldText, RefusesOnward, RefusesOnwardRun, RefusesRun, RefusesScheduleText, RefusesTrace}

-- what follows of each fault of an answer
pub of_each : {T E : Type 0} (r : Result T E) (P Q : E → Type 0) → ((e : E) → P e → Q e) → IfErr r P → IfErr r Q
of_each (Ok x) P Q gives h = tt
of_each (Err e) P Q gives h = gives e h

-- ---- what is no fault of writing

pub no_write : (e : Fault) → ((w : WriteFault) → e ≢ fault.Writing w) → is_writing e ≡ false
no_write (fault.Writing w) never = absurd (never w refl)
no_write e never = refl

pub run_silent : (e : Fault) → RefusesRun e → is_writing e ≡ false
run_silent e h = no_write e (λ w is. subst RefusesRun is h)

-- ---- from a step to the engine

-- an input that is refused as a scenario
pub to_simulation : (e : Fault) (a b : Option (List ℕ)) → RefusesScenarioInput e a b → RefusesSimulation e a b
to_simulation (fault.Writing w) a b h = absurd h
to_simulation (fault.Thread t) a b h = absurd h
to_simulation e a b h = h

pub to_lanes : (e : Fault) (a b : Option (List ℕ)) → RefusesScenarioInput e a b → RefusesLanes e a b
to_lanes (fault.Writing w) a b h = absurd h
to_lanes e a b h = h

pub to_leg : (e : Fault) (n : ℕ) (a b : Option (List ℕ)) → RefusesScenarioInput e a b → RefusesLeg n e a b
to_leg fault.CommandLine n a b h = absurd h
to_leg (fault.Writing w) n a b h = absurd h
to_leg (fault.Thread t) n a b h = absurd h
to_leg e n a b h = h

-- a run of the scenario that was read
-- what holds of a thread and of memory holds of each fault of a run
of_run : (e : Fault) (P : Fault → Type 0) → ((t : ThreadFault) → P (fault.Thread t)) → ((m : AllocError) → P (fault.Memory m)) → RefusesRun e → P e
of_run (fault.Thread t) P thread memory h = thread t
of_run (fault.Memory m) P thread memory h = memory m
of_run e P thread memory h = absurd h

pub run_to_simulation : (e : Fault) (a b : Option (List ℕ)) → HasScenario a b → RefusesRun e → RefusesSimulation e a b
run_to_simulation e a b read h = of_run e (λ f. RefusesSimulation f a b) (λ t. read) (λ m. tt) h

pub run_to_leg : (e : Fault) (s : ScenarioParts) (n : ℕ) (a b : Option (List ℕ)) → ReadScenario a b s → RefusesLegRun s n e → RefusesLeg n e a b
run_to_leg fault.CommandLine s n a b read h = record { scenario = s; read = read; fewer = h }
run_to_leg (fault.Thread t) s n a b read h = record { scenario = s; read = read; enough = h }
run_to_leg (fault.Memory m) s n a b read h = tt
run_to_leg e s n a b read h = absurd h

-- ---- what was read before anything is written

pub scenario_of_report : (a b : Option (List ℕ)) (text : List ℕ) → MadeReport a b text → HasScenario a b
scenario_of_report a b text made = record { scenario = made.answer.scenario; read = record { input = made.input; read = made.read; reads = made.answer.reads } }

pub enough_of_leg : (n : ℕ) (a b : Option (List ℕ)) (text : List ℕ) → MadeLeg n a b text → HasEnough n a b
enough_of_leg n a b text made = record {
  scenario = made.answer.scenario;
  read = record { input = made.input; read = made.read; reads = made.answer.reads };
  enough = made.answer.leg.is_text.ranges.next_high;
}

pub checkpoint_of_report : (s s' a b : Option (List ℕ)) (text : List ℕ) → MadeResumed s s' a b text → HasCheckpoint s s' a b
checkpoint_of_report s s' a b text made = record {
  scenario = made.scenario;
  bytes = made.bytes;
  read = made.read;
  next = made.answer.next;
  states = made.answer.states;
  is_text = made.answer.is_text;
}

-- ---- an output that is refused

-- what holds of each fault of writing holds of each fault of an output
of_output : (e : Fault) (P : Fault → Type 0) → ((w : WriteFault) → P (fault.Writing w)) → RefusesOutput e → P e
of_output (fault.Writing w) P write h = write w
of_output e P write h = absurd h

pub output_of_simulation : (e : Fault) (a b : Option (List ℕ)) → HasScenario a b → RefusesOutput e → RefusesSimulation e a b
output_of_simulation e a b read h = of_output e (λ f. RefusesSimulation f a b) (λ w. read) h

pub output_of_lanes : (e : Fault) (a b : Option (List ℕ)) → HasScenario a b → RefusesOutput e → RefusesLanes e a b
output_of_lanes e a b read h = of_output e (λ f. RefusesLanes f a b) (λ w. read) h

pub output_of_leg : (e : Fault) (n : ℕ) (a b : Option (List ℕ)) → HasEnough n a b → RefusesOutput e → RefusesLeg n e a b
output_of_leg e n a b read h = of_output e (λ f. RefusesLeg n f a b) (λ w. read) h

pub output_of_resume : (e : Fault) (s s' a b : Option (List ℕ)) → HasCheckpoint s s' a b → RefusesOutput e → RefusesResume e s s' a b
output_of_resume e s s' a b read h = of_output e (λ f. RefusesResume f s s' a b) (λ w. read) h

pub output_of_migrate : (e : Fault) (a b : Option (List ℕ)) → RefusesOutput e → RefusesMigrate e a b
output_of_migrate e a b h = of_output e (λ f. RefusesMigrate f a b) (λ w. tt) h

pub output_of_replay : (e : Fault) (size readers total : ℕ) (a b : Option (List ℕ)) → RefusesOutput e → RefusesReplay size readers total e a b
output_of_replay e size readers total a b h = of_output e (λ f. RefusesReplay size readers total f a b) (λ w. tt) h

-- ---- a checkpoint that is read after the scenario

pub onward_of_resume : (e : Fault) (s : ScenarioParts) (p q a b : Option (List ℕ)) → ReadScenario a b s → RefusesOnward s e p q → RefusesResume e p q a b
onward_of_resume (fault.Checkpoint f) s p q a b read h = (h.0, record { scenario = s; bytes = h.1.bytes; read = record { scenario = read; checkpoint = h.1.read }; refused = h.1.refused })
onward_of_resume (fault.Reading r) s p q a b read h = inr (record { scenario = s; read = read }, h)
onward_of_resume (fault.Thread t) s p q a b read h = record { scenario = s; bytes = h.bytes; read = record { scenario = read; checkpoint = h.read }; next = h.next; states = h.states; is_text = h.is_text }
onward_of_resume (fault.Memory m) s p q a b read h = inr (record { scenario = s; read = read }, h)
onward_of_resume e s p q a b read h = absurd h

pub onward_silent : (e : Fault) (s : ScenarioParts) (p q : Option (List ℕ)) → RefusesOnward s e p q → is_writing e ≡ false
onward_silent e s p q h = no_write e (λ w is. subst (λ (f : Fault). RefusesOnward s f p q) is h)

pub text_of_onward : (e : Fault) (s : ScenarioParts) (p q : Option (List ℕ)) (bytes : List ℕ) → ReadAll p q bytes → RefusesOnwardRun s e bytes → RefusesOnward s e p q
text_of_onward (fault.Checkpoint f) s p q bytes read h = (h.0, record { bytes = bytes; read = read; refused = h.1 })
text_of_onward (fault.Thread t) s p q bytes read h = record { bytes = bytes; read = read; next = h.0; states = h.1; is_text = h.2 }
text_of_onward (fault.Memory m) s p q bytes read h = tt
text_of_onward e s p q bytes read h = absurd h

pub run_onward : (e : Fault) (s : ScenarioParts) (next : ℕ) (states : List Parts) (bytes : List ℕ) → IsTextOf s next states bytes → RefusesRun e → RefusesOnwardRun s e bytes
run_onward e s next states bytes is_text h = of_run e (λ f. RefusesOnwardRun s f bytes) (λ t. (next, states, is_text)) (λ m. tt) h

-- ---- an old text, and a schedule

pub old_of_migrate : (e : Fault) (a b : Option (List ℕ)) (bytes : List ℕ) → ReadAll a b bytes → RefusesOldText e bytes → RefusesMigrate e a b
old_of_migrate (fault.Migration f) a b bytes read h = (h.0, record { input = bytes; read = read; refused = h.1 })
old_of_migrate (fault.Memory m) a b bytes read h = tt
old_of_migrate e a b bytes read h = absurd h

pub old_silent : (e : Fault) (bytes : List ℕ) → RefusesOldText e bytes → is_writing e ≡ false
old_silent e bytes h = no_write e (λ w is. subst (λ (f : Fault). RefusesOldText f bytes) is h)

pub text_of_trace : (e : Fault) (n : ℕ) (a b : Option (List ℕ)) (bytes : List ℕ) → ReadAll a b bytes → RefusesScheduleText n e bytes → RefusesTrace n e a b
text_of_trace (fault.Schedule f) n a b bytes read h = (h.0, record { input = bytes; read = read; refused = h.1 })
text_of_trace (fault.Memory m) n a b bytes read h = tt
text_of_trace e n a b bytes read h = absurd h

pub schedule_silent : (e : Fault) (n : ℕ) (bytes : List ℕ) → RefusesScheduleText n e bytes → is_writing e ≡ false
schedule_silent e n bytes h = no_write e (λ w is. subst (λ (f : Fault). RefusesScheduleText n f bytes) is h)

pub trace_of_replay : (e : Fault) (size readers total : ℕ) (a b : Option (List ℕ)) → RefusesTrace readers e a b → RefusesReplay size readers total e a b
trace_of_replay fault.CommandLine size readers total a b h = absurd h
trace_of_replay (fault.Writing w) size readers total a b h = absurd h
trace_of_replay e size readers total a b h = h
