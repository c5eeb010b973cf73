-- Which faults the steps that engines share may return, and what each of them says of what was read: `reading` and
-- `reading'` are the bytes that a reader has left before and after; either may tell nothing. What the faults of an engine say
-- stands in `Commands`, as `RefusesLeg`.
--
-- No definition can say that a system refused something. Such a fault carries what reported the refusal in its place.
use Rattle.std.specs.Prelude.{◌≢◌, ⊤, ℕ, List, Option, alloc_error}
use Rattle.crn_scenario.specs.declared.scenario_fault.ScenarioFault.TheVariants as scenario
use Rattle.crn_engines.specs.declared.input.ReadFault.TheVariants as read
use Rattle.crn_engines.specs.declared.fault.Fault.{Fault}
use Rattle.crn_engines.specs.declared.fault.Fault.TheVariants as fault
use Rattle.crn_engines.specs.Bytes.{ReadTooMuch}
use Rattle.crn_engines.specs.Inputs.{ReadRefused}

-- an input that is read to its end
abbrev pub RefusesInput : Fault → Option (List ℕ) → Option (List ℕ) → Type 0
RefusesInput (fault.Reading (read.Failed _)) reading reading' = ⊤
RefusesInput (fault.Reading read.TooLong) reading reading' = ReadTooMuch reading reading'
RefusesInput (fault.Memory _) reading reading' = ⊤
RefusesInput _ reading reading' = ⊥

-- an input that is read to its end and judged as a scenario
abbrev pub RefusesScenarioInput : Fault → Option (List ℕ) → Option (List ℕ) → Type 0
RefusesScenarioInput (fault.Scenario f) reading reading' = (f ≢ scenario.Memory alloc_error) × ReadRefused f reading reading'
RefusesScenarioInput e reading reading' = RefusesInput e reading reading'

-- an output that is written
abbrev pub RefusesOutput : Fault → Type 0
RefusesOutput (fault.Writing _) = ⊤
RefusesOutput _ = ⊥

-- the words of a block, which are written and for which nothing is read
abbrev pub RefusesWords : Fault → Type 0
RefusesWords (fault.Memory _) = ⊤
RefusesWords e = RefusesOutput e
