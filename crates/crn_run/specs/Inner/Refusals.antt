-- Why a run has no result, step by step.
use Rattle.std.specs.Prelude.{◌≡◌, ℕ, Bool, true, false, List}
use Rattle.std.specs.List.{list_any}
use Rattle.crn_stock.specs.Parts.{Parts}
use Rattle.crn_stock.specs.Models.{ScenarioParts}
use Rattle.crn_ring.specs.declared.ring.Ring.{Ring}
use Rattle.crn_run.specs.declared.fault.RunFault.{RunFault}
use Rattle.crn_run.specs.declared.fault.RunFault.TheVariants.{Thread, Gate, Memory}
use Rattle.crn_run.specs.declared.worker.PolicyEnd.{PolicyEnd}
use Rattle.crn_run.specs.Ends.{is_held}
use Rattle.crn_run.specs.Faults.{IsEndedOn, found_end}
use Rattle.crn_run.specs.Gates.{AllPassedOrHeld, SomeHeld}
use Rattle.crn_run.specs.Threads.{FromThreads}
use Rattle.crn_run.specs.Inner.Ends.{HasEarly, is_short}

-- the ends of all policies' runs
abbrev pub RefusesEnds : List PolicyEnd → RunFault → Type 0
RefusesEnds ends (Thread f) = HasEarly f ends
RefusesEnds ends Gate = (list_any is_short ends ≡ false) × (list_any is_held ends ≡ true)
RefusesEnds ends (Memory _) = ⊥

-- a run over this ring, for which all memory stands
abbrev pub RefusesRun : {G : Type 0} → (G → Bool) → (G → ℕ → ℕ → Bool → G → Type 0) → ScenarioParts → Ring → ℕ → ℕ → List Parts → List G → RunFault → Type 0
RefusesRun refused asked s ring first upto start gates (Thread f) = IsEndedOn ring upto (found_end f.cause) × FromThreads refused asked s ring start gates (found_end f.cause)
RefusesRun refused asked s ring first upto start gates Gate = SomeHeld refused asked first upto gates × AllPassedOrHeld refused asked first upto gates
RefusesRun refused asked s ring first upto start gates (Memory _) = ⊥
