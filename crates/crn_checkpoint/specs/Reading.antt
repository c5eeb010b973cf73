-- What a text is a checkpoint of, and what a refusal says of it.
use Rattle.std.specs.Prelude.{◌≡◌, ◌⊎◌, ℕ, ◌^◌, ◌<◌, ◌≤◌, ⊤, List, All, Option, Some, None, length}
use Rattle.crn_draw.specs.Spread.{Weighted}
use Rattle.crn_draw.specs.Faults.{least_weights_fault}
use Rattle.crn_stock.specs.Parts.{Parts, AreInRange}
use Rattle.crn_stock.specs.Models.{ModelParts, IsModel, total, ScenarioParts, AreForScenario, IsSameButRing}
use Rattle.crn_sequential.specs.Runs.{IsCheckpointOf, EachAt}
use Rattle.crn_checkpoint.specs.CheckpointText.{checkpoint_text}
use Rattle.crn_checkpoint.specs.declared.version.Version.{Version}
use Rattle.crn_checkpoint.specs.declared.version.Version.TheVariants as version
use Rattle.crn_checkpoint.specs.declared.fault.CheckpointFault.{CheckpointFault}
use Rattle.crn_checkpoint.specs.declared.fault.CheckpointFault.TheVariants as fault

-- the numbers of returned items can be drawn from by their weights, where customers return any
abbrev pub CanDraw : Option Weighted → Type 0
CanDraw None = ⊤
CanDraw (Some d) = least_weights_fault d.values d.weights ≡ None

-- all parts of a scenario are within their ranges
pub record IsScenario (s : ScenarioParts) : Type 0 where
  pub key_length : length s.key ≡ 4
  pub key_words : All (λ w. w < 2 ^ 64) s.key
  pub model : IsModel s.model
  pub demand : least_weights_fault s.model.demand.values s.model.demand.weights ≡ None
  pub lead : least_weights_fault s.model.lead.values s.model.lead.weights ≡ None
  pub returns : CanDraw s.model.returns
  pub others : AreForScenario s.ring s.policies

-- a scenario, and a state for each of its policies before block `next`, are within their ranges
pub record IsInRange (s : ScenarioParts) (next : ℕ) (states : List Parts) : Type 0 where
  pub scenario : IsScenario s
  pub next_high : next ≤ total s.model
  pub states_of : IsCheckpointOf s next states
  pub ranges : All AreInRange states

-- a version has a text for a model: the first knows no returns
abbrev pub CanTell : Version → ModelParts → Type 0
CanTell v m = v ≡ version.First → m.returns ≡ None

-- the bytes are the text, in a version, of a checkpoint: of these states of a scenario's policies before block `next`
pub record IsTextIn (v : Version) (s : ScenarioParts) (next : ℕ) (states : List Parts) (bytes : List ℕ) : Type 0 where
  pub ranges : IsInRange s next states
  pub tells : CanTell v s.model
  pub text_is : bytes ≡ checkpoint_text v s next states

-- the bytes are the text of a checkpoint, as it is written
abbrev pub IsTextOf : ScenarioParts → ℕ → List Parts → List ℕ → Type 0
IsTextOf s next states bytes = IsTextIn version.Second s next states bytes

-- the bytes are the text of a checkpoint in the first version
abbrev pub IsOldTextOf : ScenarioParts → ℕ → List Parts → List ℕ → Type 0
IsOldTextOf s next states bytes = IsTextIn version.First s next states bytes

-- the bytes are the text of a checkpoint, in whatever version
abbrev pub IsAnyTextOf : ScenarioParts → ℕ → List Parts → List ℕ → Type 0
IsAnyTextOf s next states bytes = IsTextOf s next states bytes ⊎ IsOldTextOf s next states bytes

-- the bytes are the text of no checkpoint, in whatever version and of whatever scenario
abbrev pub IsNoCheckpoint : List ℕ → Type 0
IsNoCheckpoint bytes = (s : ScenarioParts) (next : ℕ) (states : List Parts) → ¬ IsAnyTextOf s next states bytes

-- the bytes are the text, in whatever version, of a checkpoint of another scenario than s
pub record IsOfAnother (s : ScenarioParts) (bytes : List ℕ) : Type 0 where
  pub scenario : ScenarioParts
  pub next : ℕ
  pub states : List Parts
  pub is_text : IsAnyTextOf scenario next states bytes
  pub differs : ¬ IsSameButRing scenario s

-- the bytes are the text of a checkpoint of s in the first version
pub record IsOld (s : ScenarioParts) (bytes : List ℕ) : Type 0 where
  pub next : ℕ
  pub states : List Parts
  pub is_text : IsOldTextOf s next states bytes

-- what a refusal says about the bytes: a failed allocation says nothing
abbrev pub RefusesCheckpoint : ScenarioParts → CheckpointFault → List ℕ → Type 0
RefusesCheckpoint s fault.NoCheckpoint bytes = IsNoCheckpoint bytes
RefusesCheckpoint s fault.OtherScenario bytes = IsOfAnother s bytes
RefusesCheckpoint s fault.OldVersion bytes = IsOld s bytes
RefusesCheckpoint s (fault.Memory _) bytes = ⊤

-- the bytes are the text of a leg: of the states that the scenario's policies have after the blocks below `next`
pub record IsLegOf (s : ScenarioParts) (next : ℕ) (bytes : List ℕ) : Type 0 where
  pub states : List Parts
  pub at : EachAt s next states
  pub is_text : IsTextOf s next states bytes

-- the bytes are the text of a leg in the first version
pub record IsOldLegOf (s : ScenarioParts) (next : ℕ) (bytes : List ℕ) : Type 0 where
  pub states : List Parts
  pub at : EachAt s next states
  pub is_text : IsOldTextOf s next states bytes
