-- What each command reads and writes, and what its faults say. `reading` and `reading'` are the bytes that the reader of the
-- input has left before and after, `saved` and `saved'` those of the checkpoint's reader, `held` and `held'` those that the
-- writer holds; each may tell nothing.
use Rattle.std.specs.Prelude.{ℕ, List, Option, ◌<◌, ◌≤◌, ◌≡◌, ◌≢◌, ◌⊎◌, length, map, alloc_error, ⊤, true, [], ◌∷◌, string_bytes, Bool, false}
use Rattle.crn_stock.specs.Models.{ScenarioParts, total, IsSameButRing}
use Rattle.crn_scenario.specs.Reading.{Reads}
use Rattle.crn_report.specs.Report.{IsReportOf, IsReportText}
use Rattle.crn_engines.specs.declared.fault.Fault.{Fault}
use Rattle.crn_engines.specs.declared.fault.Fault.TheVariants as fault
use Rattle.crn_engines.specs.Bytes.{ReadAll, Wrote, WroteFrontOf, AppendsFront}
use Rattle.crn_engines.specs.Inputs.{HasScenario, ReadScenario}
use Rattle.crn_engines.specs.Refusals.{RefusesScenarioInput, RefusesInput, RefusesOutput, RefusesWords}
use Rattle.crn_checkpoint.specs.Reading.{IsLegOf, IsTextOf, RefusesCheckpoint, IsOldLegOf}
use Rattle.std.specs.Io.KnownBytes.{Keeps, Appends}
use Rattle.crn_stock.specs.Parts.{Parts}
use Rattle.crn_sequential.specs.Runs.{EachOnward}
use Rattle.crn_checkpoint.specs.declared.fault.CheckpointFault.{CheckpointFault}
use Rattle.crn_checkpoint.specs.declared.fault.CheckpointFault.TheVariants as checkpoint
use Rattle.crn_checkpoint.specs.Migration.{IsMigrated, RefusesMigration}
use Rattle.crn_checkpoint.specs.declared.fault.MigrateFault.{MigrateFault}
use Rattle.crn_checkpoint.specs.declared.fault.MigrateFault.TheVariants as migration
use Rattle.crn_proto.specs.Opening.{CanOpen}
use Rattle.crn_proto.specs.declared.spec.RingSpec.{RingSpec}
use Rattle.crn_proto.specs.declared.schedule.Actor.{Actor}
use Rattle.crn_trace.specs.declared.schedule_fault.ScheduleFault.{ScheduleFault}
use Rattle.crn_trace.specs.declared.schedule_fault.ScheduleFault.TheVariants as schedule
use Rattle.crn_trace.specs.Schedule.{IsScheduleOf, are_below, RefusesSchedule}
use Rattle.crn_trace.specs.Trace.{trace_text}
use Rattle.crn_trace.specs.BlockWords.{words_text}
use Rattle.crn_command_line.specs.declared.commands.Command.{Command}
use Rattle.crn_command_line.specs.declared.commands.Command.TheVariants as command
use Rattle.std.specs.declared.alloc.AllocError.{AllocError}
use Rattle.crn_command_line.specs.declared.fault.CommandLineFault.{CommandLineFault}
use Rattle.crn_command_line.specs.declared.fault.CommandLineFault.TheVariants as words
use Rattle.crn_command_line.specs.Parsing.{RefusesWords as RefusesCommand}
use Rattle.crn_proto.specs.declared.fault.RingFault.{RingFault}
use Rattle.crn_proto.specs.declared.fault.RingFault.TheVariants as ring
use Rattle.crn_run.specs.declared.fault.RunFault.{RunFault}
use Rattle.crn_run.specs.declared.fault.RunFault.TheVariants as run

-- ---- run

-- the text is the report of the scenario that the input is a text of
pub record IsReportFor (input text : List ℕ) : Type 0 where
  pub scenario : ScenarioParts
  pub reads : Reads input scenario
  pub report : IsReportOf scenario text

-- the whole input was read, and the text is its report
pub record MadeReport (reading reading' : Option (List ℕ)) (text : List ℕ) : Type 0 where
  pub input : List ℕ
  pub read : ReadAll reading reading' input
  pub answer : IsReportFor input text

-- the whole input was read, and just its report was written
abbrev pub WroteReport : Option (List ℕ) → Option (List ℕ) → Option (List ℕ) → Option (List ℕ) → Type 0
WroteReport reading reading' held held' = Wrote (MadeReport reading reading') held held'

-- the whole input was read, and a prefix of its report was written
abbrev pub WroteFront : Option (List ℕ) → Option (List ℕ) → Option (List ℕ) → Option (List ℕ) → Type 0
WroteFront reading reading' held held' = WroteFrontOf (MadeReport reading reading') held held'

-- a fault of a thread or of the output comes only if the whole input was read and is the text of a scenario; each other fault
-- says what is wrong with the input, or that an allocation failed
abbrev pub RefusesSimulation : Fault → Option (List ℕ) → Option (List ℕ) → Type 0
RefusesSimulation (fault.Thread _) reading reading' = HasScenario reading reading'
RefusesSimulation (fault.Writing _) reading reading' = HasScenario reading reading'
RefusesSimulation e reading reading' = RefusesScenarioInput e reading reading'

-- ---- lanes

-- a run on one thread writes what a run writes, and no fault of a thread comes
abbrev pub RefusesLanes : Fault → Option (List ℕ) → Option (List ℕ) → Type 0
RefusesLanes (fault.Thread _) reading reading' = ⊥
RefusesLanes e reading reading' = RefusesSimulation e reading reading'

-- ---- leg

-- the text is that of a leg up to block n of the scenario that the input is a text of
pub record IsLegFor (n : ℕ) (input text : List ℕ) : Type 0 where
  pub scenario : ScenarioParts
  pub reads : Reads input scenario
  pub leg : IsLegOf scenario n text

-- the whole input was read, and the text is that of its leg
pub record MadeLeg (n : ℕ) (reading reading' : Option (List ℕ)) (text : List ℕ) : Type 0 where
  pub input : List ℕ
  pub read : ReadAll reading reading' input
  pub answer : IsLegFor n input text

-- the whole input was read, and just the text of its leg was written
abbrev pub WroteLeg : ℕ → Option (List ℕ) → Option (List ℕ) → Option (List ℕ) → Option (List ℕ) → Type 0
WroteLeg n reading reading' held held' = Wrote (MadeLeg n reading reading') held held'

-- the whole input was read, and a prefix of the text of its leg was written
abbrev pub WroteLegFront : ℕ → Option (List ℕ) → Option (List ℕ) → Option (List ℕ) → Option (List ℕ) → Type 0
WroteLegFront n reading reading' held held' = WroteFrontOf (MadeLeg n reading reading') held held'

-- the whole input was read, and it is the text of a scenario of fewer than n blocks
pub record HasFewer (n : ℕ) (reading reading' : Option (List ℕ)) : Type 0 where
  pub scenario : ScenarioParts
  pub read : ReadScenario reading reading' scenario
  pub fewer : total scenario.model < n

-- the whole input was read, and it is the text of a scenario of n blocks or more
pub record HasEnough (n : ℕ) (reading reading' : Option (List ℕ)) : Type 0 where
  pub scenario : ScenarioParts
  pub read : ReadScenario reading reading' scenario
  pub enough : n ≤ total scenario.model

-- nothing is run of a scenario of fewer than n blocks
abbrev pub RefusesLeg : ℕ → Fault → Option (List ℕ) → Option (List ℕ) → Type 0
RefusesLeg n fault.CommandLine reading reading' = HasFewer n reading reading'
RefusesLeg n (fault.Thread _) reading reading' = HasEnough n reading reading'
RefusesLeg n (fault.Writing _) reading reading' = HasEnough n reading reading'
RefusesLeg n e reading reading' = RefusesScenarioInput e reading reading'

-- ---- resume

-- the text is the report of the states that these become by all blocks that are left, one for each policy
pub record IsReportOnward (s : ScenarioParts) (states : List Parts) (text : List ℕ) : Type 0 where
  pub ends : List Parts
  pub count : length ends ≡ length s.policies
  pub onward : EachOnward s states (total s.model) ends
  pub report : IsReportText s (map (λ v. v.costs) ends) text

-- the bytes are the text of a checkpoint of the scenario, and the text is the report onward from its states
pub record IsResumedReport (s : ScenarioParts) (bytes text : List ℕ) : Type 0 where
  pub next : ℕ
  pub states : List Parts
  pub is_text : IsTextOf s next states bytes
  pub report : IsReportOnward s states text

-- where the bytes are the text of a leg of the scenario, on a ring of whatever size, the text is the scenario's report
abbrev pub ReportsLegs : ScenarioParts → List ℕ → List ℕ → Type 0
ReportsLegs s bytes text = (s' : ScenarioParts) (n : ℕ) → IsSameButRing s' s → IsLegOf s' n bytes → IsReportOf s text

-- both inputs were read whole: a text of the scenario, and the bytes
pub record ReadBoth (saved saved' reading reading' : Option (List ℕ)) (s : ScenarioParts) (bytes : List ℕ) : Type 0 where
  pub scenario : ReadScenario reading reading' s
  pub checkpoint : ReadAll saved saved' bytes

-- both inputs were read whole: the text of a scenario, and that of a checkpoint of it
pub record HasCheckpoint (saved saved' reading reading' : Option (List ℕ)) : Type 0 where
  pub scenario : ScenarioParts
  pub bytes : List ℕ
  pub read : ReadBoth saved saved' reading reading' scenario bytes
  pub next : ℕ
  pub states : List Parts
  pub is_text : IsTextOf scenario next states bytes

-- both inputs were read whole, and the text is the report onward from the checkpoint
pub record MadeResumed (saved saved' reading reading' : Option (List ℕ)) (text : List ℕ) : Type 0 where
  pub scenario : ScenarioParts
  pub bytes : List ℕ
  pub read : ReadBoth saved saved' reading reading' scenario bytes
  pub answer : IsResumedReport scenario bytes text

-- both inputs were read whole, and just the report onward from the checkpoint was written
abbrev pub WroteResumed : Option (List ℕ) → Option (List ℕ) → Option (List ℕ) → Option (List ℕ) → Option (List ℕ) → Option (List ℕ) → Type 0
WroteResumed saved saved' reading reading' held held' = Wrote (MadeResumed saved saved' reading reading') held held'

-- both inputs were read whole, and a prefix of the report onward from the checkpoint was written
abbrev pub WroteResumedFront : Option (List ℕ) → Option (List ℕ) → Option (List ℕ) → Option (List ℕ) → Option (List ℕ) → Option (List ℕ) → Type 0
WroteResumedFront saved saved' reading reading' held held' = WroteFrontOf (MadeResumed saved saved' reading reading') held held'

-- both inputs were read whole; where they are a scenario and a leg of it, the text is the scenario's report
pub record MadeLegsReport (saved saved' reading reading' : Option (List ℕ)) (text : List ℕ) : Type 0 where
  pub input : List ℕ
  pub read : ReadAll reading reading' input
  pub bytes : List ℕ
  pub read_bytes : ReadAll saved saved' bytes
  pub report : (s : ScenarioParts) → Reads input s → ReportsLegs s bytes text

-- both inputs were read whole; where they are a scenario and a leg of it, just the scenario's report was written
abbrev pub WroteLegsReport : Option (List ℕ) → Option (List ℕ) → Option (List ℕ) → Option (List ℕ) → Option (List ℕ) → Option (List ℕ) → Type 0
WroteLegsReport saved saved' reading reading' held held' = Wrote (MadeLegsReport saved saved' reading reading') held held'

-- both inputs were read whole, and the bytes are refused as a checkpoint of the scenario
pub record ReadRefusedCheckpoint (f : CheckpointFault) (saved saved' reading reading' : Option (List ℕ)) : Type 0 where
  pub scenario : ScenarioParts
  pub bytes : List ℕ
  pub read : ReadBoth saved saved' reading reading' scenario bytes
  pub refused : RefusesCheckpoint scenario f bytes

-- the scenario is read first, and where it is refused the checkpoint is not read
abbrev pub RefusesResume : Fault → Option (List ℕ) → Option (List ℕ) → Option (List ℕ) → Option (List ℕ) → Type 0
RefusesResume (fault.Checkpoint f) saved saved' reading reading' = (f ≢ checkpoint.Memory alloc_error) × ReadRefusedCheckpoint f saved saved' reading reading'
RefusesResume (fault.Thread _) saved saved' reading reading' = HasCheckpoint saved saved' reading reading'
RefusesResume (fault.Writing _) saved saved' reading reading' = HasCheckpoint saved saved' reading reading'
RefusesResume e saved saved' reading reading' = (Keeps saved saved' × RefusesScenarioInput e reading reading') ⊎ (HasScenario reading reading' × RefusesInput e saved saved')

-- ---- migrate

-- the text is that of a leg of a scenario; so what a resumed run reports from it, on a ring of whatever size, is the
-- scenario's report
pub record IsResumable (s : ScenarioParts) (n : ℕ) (text : List ℕ) : Type 0 where
  pub leg : IsLegOf s n text
  pub report : (s' : ScenarioParts) (report : List ℕ) → IsSameButRing s s' → ReportsLegs s' text report → IsReportOf s' report

-- where the bytes are the text of a leg in the first version, the text is that leg's
abbrev pub MigratesLegs : List ℕ → List ℕ → Type 0
MigratesLegs bytes text = (s : ScenarioParts) (n : ℕ) → IsOldLegOf s n bytes → IsResumable s n text

-- the whole input was read, and the text is what it becomes
pub record MadeMigrated (reading reading' : Option (List ℕ)) (text : List ℕ) : Type 0 where
  pub input : List ℕ
  pub read : ReadAll reading reading' input
  pub answer : IsMigrated input text
  pub legs : MigratesLegs input text

-- the whole input was read, and just the text that it becomes was written
abbrev pub WroteMigrated : Option (List ℕ) → Option (List ℕ) → Option (List ℕ) → Option (List ℕ) → Type 0
WroteMigrated reading reading' held held' = Wrote (MadeMigrated reading reading') held held'

-- the whole input was read, and a prefix of the text that it becomes was written
abbrev pub WroteMigratedFront : Option (List ℕ) → Option (List ℕ) → Option (List ℕ) → Option (List ℕ) → Type 0
WroteMigratedFront reading reading' held held' = WroteFrontOf (MadeMigrated reading reading') held held'

-- the whole input was read, and it is not migrated for a fault
pub record ReadRefusedMigration (f : MigrateFault) (reading reading' : Option (List ℕ)) : Type 0 where
  pub input : List ℕ
  pub read : ReadAll reading reading' input
  pub refused : RefusesMigration f input

-- what each fault says of the checkpoint's input
abbrev pub RefusesMigrate : Fault → Option (List ℕ) → Option (List ℕ) → Type 0
RefusesMigrate (fault.Migration f) reading reading' = (f ≢ migration.Memory alloc_error) × ReadRefusedMigration f reading reading'
RefusesMigrate (fault.Writing _) reading reading' = ⊤
RefusesMigrate e reading reading' = RefusesInput e reading reading'

-- ---- replay

-- the ring that is replayed: the blocks 0 to total - 1 of the zero key
abbrev pub replayed : ℕ → ℕ → ℕ → RingSpec
replayed size readers total = record { size = size; readers = readers; id = record { key = 0 ∷ 0 ∷ 0 ∷ 0 ∷ []; first = 0; total = total } }

-- the text is the trace of the schedule that the input is a text of, whose readers are all of the ring
pub record IsTraceFor (spec : RingSpec) (input text : List ℕ) : Type 0 where
  pub actors : List Actor
  pub schedule : IsScheduleOf input actors
  pub known : are_below spec.readers actors ≡ true
  pub trace : text ≡ trace_text spec actors

-- the whole input was read, and the text is its trace
pub record MadeTrace (spec : RingSpec) (reading reading' : Option (List ℕ)) (text : List ℕ) : Type 0 where
  pub input : List ℕ
  pub read : ReadAll reading reading' input
  pub answer : IsTraceFor spec input text

-- the whole input was read, and just its trace was written
abbrev pub WroteTrace : RingSpec → Option (List ℕ) → Option (List ℕ) → Option (List ℕ) → Option (List ℕ) → Type 0
WroteTrace spec reading reading' held held' = Wrote (MadeTrace spec reading reading') held held'

-- the whole input was read, and a prefix of its trace was written
abbrev pub WroteTraceFront : RingSpec → Option (List ℕ) → Option (List ℕ) → Option (List ℕ) → Option (List ℕ) → Type 0
WroteTraceFront spec reading reading' held held' = WroteFrontOf (MadeTrace spec reading reading') held held'

-- the whole input was read, and it is refused as a schedule
pub record ReadRefusedSchedule (readers : ℕ) (f : ScheduleFault) (reading reading' : Option (List ℕ)) : Type 0 where
  pub input : List ℕ
  pub read : ReadAll reading reading' input
  pub refused : RefusesSchedule readers f input

-- where there is no such ring nothing is read
abbrev pub RefusesReplay : ℕ → ℕ → ℕ → Fault → Option (List ℕ) → Option (List ℕ) → Type 0
RefusesReplay size readers total fault.CommandLine reading reading' = (¬ CanOpen (replayed size readers total)) × Keeps reading reading'
RefusesReplay size readers total (fault.Schedule f) reading reading' = (f ≢ schedule.Memory alloc_error) × ReadRefusedSchedule readers f reading reading'
RefusesReplay size readers total (fault.Writing _) reading reading' = ⊤
RefusesReplay size readers total e reading reading' = RefusesInput e reading reading'

-- ---- any command

-- the bytes that the checkpoint's reader and the input's have left, and those that the writer holds; each may tell nothing
pub record Streams : Type 0 where
  pub saved : Option (List ℕ)
  pub reading : Option (List ℕ)
  pub held : Option (List ℕ)

-- nothing was read
pub record Unread (a b : Streams) : Type 0 where
  pub saved : Keeps a.saved b.saved
  pub reading : Keeps a.reading b.reading

-- just what the command asks for was read and written
abbrev pub Answered : Command → Streams → Streams → Type 0
Answered command.Run a b = Keeps a.saved b.saved × WroteReport a.reading b.reading a.held b.held
Answered command.Lanes a b = Keeps a.saved b.saved × WroteReport a.reading b.reading a.held b.held
Answered (command.Words key n) a b = Unread a b × Appends a.held b.held (words_text key n)
Answered (command.Replay size readers total) a b = Keeps a.saved b.saved × WroteTrace (replayed size readers total) a.reading b.reading a.held b.held
Answered (command.Leg n) a b = Keeps a.saved b.saved × WroteLeg n a.reading b.reading a.held b.held
Answered (command.Resume _) a b = WroteResumed a.saved b.saved a.reading b.reading a.held b.held × WroteLegsReport a.saved b.saved a.reading b.reading a.held b.held
Answered (command.Migrate _) a b = Keeps a.reading b.reading × WroteMigrated a.saved b.saved a.held b.held
Answered (command.Help text) a b = Unread a b × Appends a.held b.held (string_bytes text)

-- a prefix of what the command asks for was written
abbrev pub AnsweredFront : Command → Streams → Streams → Type 0
AnsweredFront command.Run a b = WroteFront a.reading b.reading a.held b.held
AnsweredFront command.Lanes a b = WroteFront a.reading b.reading a.held b.held
AnsweredFront (command.Words key n) a b = AppendsFront a.held b.held (words_text key n)
AnsweredFront (command.Replay size readers total) a b = WroteTraceFront (replayed size readers total) a.reading b.reading a.held b.held
AnsweredFront (command.Leg n) a b = WroteLegFront n a.reading b.reading a.held b.held
AnsweredFront (command.Resume _) a b = WroteResumedFront a.saved b.saved a.reading b.reading a.held b.held
AnsweredFront (command.Migrate _) a b = WroteMigratedFront a.saved b.saved a.held b.held
AnsweredFront (command.Help text) a b = AppendsFront a.held b.held (string_bytes text)

-- the command is refused for a fault, and this is what the fault tells of what was read
abbrev pub Refuses : Command → Fault → Streams → Streams → Type 0
Refuses command.Run e a b = Keeps a.saved b.saved × RefusesSimulation e a.reading b.reading
Refuses command.Lanes e a b = Keeps a.saved b.saved × RefusesLanes e a.reading b.reading
Refuses (command.Words _ _) e a b = Unread a b × RefusesWords e
Refuses (command.Replay size readers total) e a b = Keeps a.saved b.saved × RefusesReplay size readers total e a.reading b.reading
Refuses (command.Leg n) e a b = Keeps a.saved b.saved × RefusesLeg n e a.reading b.reading
Refuses (command.Resume _) e a b = RefusesResume e a.saved b.saved a.reading b.reading
Refuses (command.Migrate _) e a b = Keeps a.reading b.reading × RefusesMigrate e a.saved b.saved
Refuses (command.Help _) e a b = Unread a b × RefusesOutput e

-- ---- the words of the command line

-- what a refusal says of the words: a failed allocation says nothing
abbrev pub RefusesCommandLine : List (List ℕ) → Fault → Type 0
RefusesCommandLine texts fault.CommandLine = RefusesCommand texts words.Words
RefusesCommandLine texts (fault.Memory _) = ⊤
RefusesCommandLine texts _ = ⊥

-- ---- statuses, and the program's words for the faults of its parts

abbrev pub status_of : Fault → ℕ
status_of fault.CommandLine = 2
status_of (fault.Scenario _) = 3
status_of (fault.Checkpoint _) = 4
status_of (fault.Migration _) = 4
status_of (fault.Schedule _) = 4
status_of (fault.Reading _) = 5
status_of (fault.Writing _) = 5
status_of (fault.Thread _) = 6
status_of fault.Gate = 6
status_of (fault.Memory _) = 7

-- whether a prefix of the output may have been written
abbrev pub is_writing : Fault → Bool
is_writing (fault.Writing _) = true
is_writing _ = false

-- the program's word for a fault of the run
abbrev pub fault_of_run : RunFault → Fault
fault_of_run (run.Thread f) = fault.Thread f
fault_of_run run.Gate = fault.Gate
fault_of_run (run.Memory refused) = fault.Memory refused

-- the program's word for a fault of the command line
abbrev pub fault_of_words : CommandLineFault → Fault
fault_of_words words.Words = fault.CommandLine
fault_of_words (words.Memory refused) = fault.Memory refused

-- the program's word for a ring that is not opened
abbrev pub fault_of_ring : RingFault → Fault
fault_of_ring (ring.Memory refused) = fault.Memory refused
fault_of_ring _ = fault.CommandLine

-- the program's word for a fault of one of its parts: out of memory is a fault of its own
abbrev pub HandsOn : {Part : Type 0} → (AllocError → Part) → (Part → Fault) → Part → Fault → Type 0
HandsOn Memory named e f = ((e ≡ Memory alloc_error) × (f ≡ fault.Memory alloc_error)) ⊎ ((e ≢ Memory alloc_error) × (f ≡ named e))
