-- What an input is read as. `reading` and `reading'` are the bytes that the reader has left before and after; either may
-- tell nothing.
use Rattle.std.specs.Prelude.{ℕ, List, Option}
use Rattle.crn_stock.specs.Models.{ScenarioParts}
use Rattle.crn_scenario.specs.Reading.{Reads, RefusesScenario}
use Rattle.crn_scenario.specs.declared.scenario_fault.ScenarioFault.{ScenarioFault}
use Rattle.crn_engines.specs.Bytes.{ReadAll}

-- the whole input was read, and it is a text of the scenario
pub record ReadScenario (reading reading' : Option (List ℕ)) (scenario : ScenarioParts) : Type 0 where
  pub input : List ℕ
  pub read : ReadAll reading reading' input
  pub reads : Reads input scenario

-- the whole input was read, and it is the text of some scenario
pub record HasScenario (reading reading' : Option (List ℕ)) : Type 0 where
  pub scenario : ScenarioParts
  pub read : ReadScenario reading reading' scenario

-- the whole input was read, and it is refused for a fault
pub record ReadRefused (f : ScenarioFault) (reading reading' : Option (List ℕ)) : Type 0 where
  pub input : List ℕ
  pub read : ReadAll reading reading' input
  pub refused : RefusesScenario f input
