-- The report of a run onward from a checkpoint that was read, of a scenario that is known. `saved` and `saved'` are the
-- bytes that the checkpoint's reader has left before and after; either may tell nothing.
use Rattle.std.specs.Prelude.{ℕ, List, Option}
use Rattle.crn_stock.specs.Parts.{Parts}
use Rattle.crn_stock.specs.Models.{ScenarioParts}
use Rattle.crn_checkpoint.specs.Reading.{IsTextOf, RefusesCheckpoint}
use Rattle.crn_checkpoint.specs.declared.fault.CheckpointFault.{CheckpointFault}
use Rattle.crn_engines.specs.Bytes.{ReadAll}
use Rattle.crn_engines.specs.Commands.{IsResumedReport, ReportsLegs}

-- the bytes were read whole, and the text is the report onward from them
pub record MadeOnward (s : ScenarioParts) (saved saved' : Option (List ℕ)) (text : List ℕ) : Type 0 where
  pub bytes : List ℕ
  pub read : ReadAll saved saved' bytes
  pub answer : IsResumedReport s bytes text
  pub legs : ReportsLegs s bytes text

-- the bytes were read whole, and they are the text of a checkpoint of the scenario
pub record HasOnward (s : ScenarioParts) (saved saved' : Option (List ℕ)) : Type 0 where
  pub bytes : List ℕ
  pub read : ReadAll saved saved' bytes
  pub next : ℕ
  pub states : List Parts
  pub is_text : IsTextOf s next states bytes

-- the bytes were read whole, and they are refused as a checkpoint of the scenario
pub record RefusedOnward (s : ScenarioParts) (f : CheckpointFault) (saved saved' : Option (List ℕ)) : Type 0 where
  pub bytes : List ℕ
  pub read : ReadAll saved saved' bytes
  pub refused : RefusesCheckpoint s f bytes
