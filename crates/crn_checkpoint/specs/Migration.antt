-- What a text in the first version becomes, and what a refusal says of it.
use Rattle.std.specs.Prelude.{ℕ, ⊤, List}
use Rattle.crn_stock.specs.Parts.{Parts}
use Rattle.crn_stock.specs.Models.{ScenarioParts}
use Rattle.crn_checkpoint.specs.Reading.{IsTextOf, IsOldTextOf, IsNoCheckpoint}
use Rattle.crn_checkpoint.specs.declared.fault.MigrateFault.{MigrateFault}
use Rattle.crn_checkpoint.specs.declared.fault.MigrateFault.TheVariants as fault

-- the bytes are the text of a checkpoint in the first version, and the text is that of the same scenario, block and states
pub record IsMigrated (bytes text : List ℕ) : Type 0 where
  pub scenario : ScenarioParts
  pub next : ℕ
  pub states : List Parts
  pub old : IsOldTextOf scenario next states bytes
  pub new : IsTextOf scenario next states text

-- the bytes are the text of a checkpoint as it is written
pub record IsNew (bytes : List ℕ) : Type 0 where
  pub scenario : ScenarioParts
  pub next : ℕ
  pub states : List Parts
  pub is_text : IsTextOf scenario next states bytes

-- what a refusal says about the bytes: a failed allocation says nothing
abbrev pub RefusesMigration : MigrateFault → List ℕ → Type 0
RefusesMigration fault.NoCheckpoint bytes = IsNoCheckpoint bytes
RefusesMigration fault.NewVersion bytes = IsNew bytes
RefusesMigration (fault.Memory _) bytes = ⊤
