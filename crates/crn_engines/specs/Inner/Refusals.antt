-- Which faults the steps within an engine may answer, and what each of them tells.
use Rattle.std.specs.Prelude.{◌≢◌, ⊤, ◌<◌, ◌≤◌, ℕ, List, Option, alloc_error}
use Rattle.crn_stock.specs.Models.{total, ScenarioParts}
use Rattle.crn_stock.specs.Parts.{Parts}
use Rattle.crn_checkpoint.specs.Migration.{RefusesMigration}
use Rattle.crn_checkpoint.specs.Reading.{IsTextOf, RefusesCheckpoint}
use Rattle.crn_checkpoint.specs.declared.fault.CheckpointFault.TheVariants as checkpoint
use Rattle.crn_checkpoint.specs.declared.fault.MigrateFault.TheVariants as migration
use Rattle.crn_trace.specs.Schedule.{RefusesSchedule}
use Rattle.crn_trace.specs.declared.schedule_fault.ScheduleFault.TheVariants as schedule
use Rattle.crn_engines.specs.declared.fault.Fault.{Fault}
use Rattle.crn_engines.specs.declared.fault.Fault.TheVariants as fault
use Rattle.crn_engines.specs.Inner.Onward.{HasOnward, RefusedOnward}
use Rattle.crn_engines.specs.Commands.{ReadRefusedSchedule}
use Rattle.crn_engines.specs.declared.input.ReadFault.TheVariants as read
use Rattle.crn_engines.specs.Refusals.{RefusesInput}

-- one read, and the room for what it gives
abbrev pub RefusesRead : Fault → Type 0
RefusesRead (fault.Reading (read.Failed _)) = ⊤
RefusesRead (fault.Memory _) = ⊤
RefusesRead _ = ⊥

-- a run that has begun, under gates that always pass
abbrev pub RefusesRun : Fault → Type 0
RefusesRun (fault.Thread _) = ⊤
RefusesRun (fault.Memory _) = ⊤
RefusesRun _ = ⊥

-- a run up to a block that may be beyond the end
abbrev pub RefusesLegRun : ScenarioParts → ℕ → Fault → Type 0
RefusesLegRun s n fault.CommandLine = total s.model < n
RefusesLegRun s n (fault.Thread _) = n ≤ total s.model
RefusesLegRun s n e = RefusesRun e

-- a text that is judged as a checkpoint of a scenario
abbrev pub RefusesCheckpointText : ScenarioParts → Fault → List ℕ → Type 0
RefusesCheckpointText s (fault.Checkpoint f) bytes = (f ≢ checkpoint.Memory alloc_error) × RefusesCheckpoint s f bytes
RefusesCheckpointText s (fault.Memory _) bytes = ⊤
RefusesCheckpointText s _ bytes = ⊥

-- a run onward from it
abbrev pub RefusesOnwardRun : ScenarioParts → Fault → List ℕ → Type 0
RefusesOnwardRun s (fault.Thread _) bytes = (next : ℕ) × (states : List Parts) × IsTextOf s next states bytes
RefusesOnwardRun s e bytes = RefusesCheckpointText s e bytes

-- a run onward from a checkpoint of a scenario that is read
abbrev pub RefusesOnward : ScenarioParts → Fault → Option (List ℕ) → Option (List ℕ) → Type 0
RefusesOnward s (fault.Checkpoint f) saved saved' = (f ≢ checkpoint.Memory alloc_error) × RefusedOnward s f saved saved'
RefusesOnward s (fault.Thread _) saved saved' = HasOnward s saved saved'
RefusesOnward s e saved saved' = RefusesInput e saved saved'

-- a text that is migrated
abbrev pub RefusesOldText : Fault → List ℕ → Type 0
RefusesOldText (fault.Migration f) bytes = (f ≢ migration.Memory alloc_error) × RefusesMigration f bytes
RefusesOldText (fault.Memory _) bytes = ⊤
RefusesOldText _ bytes = ⊥

-- a text that is judged as a schedule
abbrev pub RefusesScheduleText : ℕ → Fault → List ℕ → Type 0
RefusesScheduleText readers (fault.Schedule f) bytes = (f ≢ schedule.Memory alloc_error) × RefusesSchedule readers f bytes
RefusesScheduleText readers (fault.Memory _) bytes = ⊤
RefusesScheduleText readers _ bytes = ⊥

-- a schedule that is read, for a ring of so many readers
abbrev pub RefusesTrace : ℕ → Fault → Option (List ℕ) → Option (List ℕ) → Type 0
RefusesTrace readers (fault.Schedule f) reading reading' = (f ≢ schedule.Memory alloc_error) × ReadRefusedSchedule readers f reading reading'
RefusesTrace readers e reading reading' = RefusesInput e reading reading'
