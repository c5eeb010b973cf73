-- Rows by their places.
use Rattle.std.specs.Prelude.{◌≡◌, ℕ, List, [], slice_index_or}
use Rattle.crn_stock.specs.Parts.{Parts}
use Rattle.crn_stock.specs.Models.{ScenarioParts}
use Rattle.crn_checkpoint.specs.CheckpointText.{checkpoint_rows}
use Rattle.crn_checkpoint.specs.Reading.{IsInRange, CanTell}
use Rattle.crn_checkpoint.specs.declared.version.Version.{Version}

-- the field at a place of the row at an index, and no bytes where there is none
abbrev pub cell : List (List (List ℕ)) → ℕ → ℕ → List ℕ
cell rows row place = slice_index_or (slice_index_or rows row []) place []

-- these are the rows of a checkpoint, in a version
pub record AreRowsOf (v : Version) (s : ScenarioParts) (next : ℕ) (states : List Parts) (rows : List (List (List ℕ))) : Type 0 where
  pub ranges : IsInRange s next states
  pub tells : CanTell v s.model
  pub rows_are : rows ≡ checkpoint_rows v s next states
