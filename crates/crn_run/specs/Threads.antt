-- What the policies' threads come to over the one ring of a run.
use Rattle.std.specs.Prelude.{◌≡◌, ℕ, ◌+◌, ◌<◌, Bool, List, Option, None, Some, length, slice_get}
use Rattle.crn_stock.specs.Parts.{Parts}
use Rattle.crn_stock.specs.Models.{ScenarioParts}
use Rattle.crn_stock.specs.Stock.{next_block}
use Rattle.crn_proto.specs.Ring.{open_reader}
use Rattle.crn_ring.specs.declared.ring.Ring.{Ring}
use Rattle.crn_ring.specs.declared.reader.Reader.{Reader}
use Rattle.crn_ring.specs.Calls.{spec_of}
use Rattle.crn_run.specs.declared.worker.PolicyEnd.{PolicyEnd}
use Rattle.crn_run.specs.declared.worker.PolicyEnd.TheVariants.{Reached, Short}
use Rattle.crn_run.specs.Ends.{EndsAs, is_held}
use Rattle.crn_run.specs.Gates.{WasAsked}
use Rattle.crn_run.specs.Jobs.{ring_spec}
use Rattle.crn_run.specs.Turns.{RunsByTurns}

-- policy k's thread comes from the state v to this end: its reader, as opened, has taken the ring's blocks by turns
pub record ComesTo {Gate : Type 0} (refused : Gate → Bool) (asked : Gate → ℕ → ℕ → Bool → Gate → Type 0) (s : ScenarioParts) (ring : Ring) (k : ℕ) (v : Parts) (gate : Gate) (e : PolicyEnd) : Type 0 where
  pub ends : EndsAs s k v ring k e
  pub turns : RunsByTurns (spec_of ring) (open_reader (spec_of ring)) e
  pub gate' : Gate
  pub was_asked : WasAsked asked k (next_block v) e gate gate'
  pub held : refused gate' ≡ is_held e

-- so do those of the first policies, to as many ends, of which the first policy's is the last
pub record FirstComeTo {Gate : Type 0} (refused : Gate → Bool) (asked : Gate → ℕ → ℕ → Bool → Gate → Type 0) (s : ScenarioParts) (ring : Ring) (start : List Parts) (gates : List Gate) (ends : List PolicyEnd) : Type 0 where
  pub each : (i k : ℕ) (e : PolicyEnd) (v : Parts) (gate : Gate) → i + k + 1 ≡ length ends → slice_get ends i ≡ Some e → slice_get start k ≡ Some v → slice_get gates k ≡ Some gate
      → ComesTo refused asked s ring k v gate e

-- one of them is early, at block n
pub record HasShort (n : ℕ) (ends : List PolicyEnd) : Type 0 where
  pub place : ℕ
  pub state : Parts
  pub reader : Reader
  pub is_end : slice_get ends place ≡ Some (Short n state reader)

-- all policies have an end, one this early one, or, with none, a thread failed to start
abbrev pub ComesFrom : ScenarioParts → Option ℕ → List PolicyEnd → Type 0
ComesFrom s None ends = length ends < length s.policies
ComesFrom s (Some n) ends = (length ends ≡ length s.policies) × HasShort n ends

-- such ends are behind a fault of a thread
pub record FromThreads {Gate : Type 0} (refused : Gate → Bool) (asked : Gate → ℕ → ℕ → Bool → Gate → Type 0) (s : ScenarioParts) (ring : Ring) (start : List Parts) (gates : List Gate) (found : Option ℕ) : Type 0 where
  pub ends : List PolicyEnd
  pub threads : FirstComeTo refused asked s ring start gates ends
  pub fault : ComesFrom s found ends

-- the policies' threads come to these states and readers over one ring of the scenario
pub record FromOneRing {Gate : Type 0} (refused : Gate → Bool) (asked : Gate → ℕ → ℕ → Bool → Gate → Type 0) (s : ScenarioParts) (first upto : ℕ) (start : List Parts) (gates : List Gate) (states : List Parts) (readers : List Reader) : Type 0 where
  pub ring : Ring
  pub spec : spec_of ring ≡ ring_spec s first upto
  pub each : (k : ℕ) (v w : Parts) (gate : Gate) (x : Reader) → slice_get start k ≡ Some v → slice_get gates k ≡ Some gate → slice_get states k ≡ Some w → slice_get readers k ≡ Some x
      → ComesTo refused asked s ring k v gate (Reached w x)
