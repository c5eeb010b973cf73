-- The runs of all policies over one ring, each by a reader and on a thread of its own.
use Rattle.std.specs.Prelude.{◌≡◌, ℕ, ◌+◌, ◌<◌, ◌≤◌, Bool, false, List, Some, length, slice_get}
use Rattle.crn_stock.specs.Parts.{Parts}
use Rattle.crn_stock.specs.Stock.{next_block}
use Rattle.crn_stock.specs.Models.{total, ScenarioParts}
use Rattle.crn_ring.specs.declared.ring.Ring.{Ring}
use Rattle.crn_ring.specs.declared.reader.Reader.{Reader}
use Rattle.crn_proto.specs.Ring.{open_reader}
use Rattle.crn_ring.specs.Calls.{IsReaderOf, reader_number, reader_part, spec_of}
use Rattle.crn_sequential.specs.Runs.{StandsBefore, IsCheckpointOf, EachOnward}
use Rattle.crn_run.specs.Ends.{EndsAs, is_held}
use Rattle.crn_run.specs.declared.jobs.Job.{Job}
use Rattle.crn_run.specs.declared.worker.PolicyEnd.{PolicyEnd}
use Rattle.crn_run.specs.declared.worker.PolicyEnd.TheVariants.{Reached}
use Rattle.crn_run.specs.Jobs.{AreReaders}
use Rattle.crn_run.specs.Gates.{WasAsked}
use Rattle.crn_run.specs.Turns.{RunsByTurns}

-- ---- what the threads are given, and give back

-- the ring carries blocks of the scenario's stream
abbrev pub CarriesFor : ScenarioParts → Ring → Type 0
CarriesFor s ring = ((spec_of ring).id.key ≡ s.key) × ((spec_of ring).id.total ≤ total s.model)

-- the policy's state stands where its reader does, which is as it is at open, and has not seen the end
pub record IsReady (s : ScenarioParts) (ring : Ring) (j : Job) : Type 0 where
  pub policy : j.policy < length s.policies
  pub reader : IsReaderOf ring j.reader
  pub number : reader_number j.reader ≡ j.policy
  pub running : (reader_part j.reader).seen_end ≡ false
  pub fresh : reader_part j.reader ≡ open_reader (spec_of ring)
  pub stands : StandsBefore s.model (reader_part j.reader).taken j.state

abbrev pub AllReady : ScenarioParts → Ring → List Job → Type 0
AllReady s ring jobs = (i : ℕ) (j : Job) → slice_get jobs i ≡ Some j → IsReady s ring j

-- a job for each policy, from its state of `start`. The first policy's is the last
pub record AreJobs (s : ScenarioParts) (ring : Ring) (start : List Parts) (jobs : List Job) : Type 0 where
  pub count : length jobs ≡ length s.policies
  pub ready : AllReady s ring jobs
  pub policies : (i : ℕ) (j : Job) → slice_get jobs i ≡ Some j → i + j.policy + 1 ≡ length s.policies
  pub states : (i : ℕ) (j : Job) → slice_get jobs i ≡ Some j → slice_get start j.policy ≡ Some j.state

-- what the job comes to under its gate: its end, the turns to it, and what the gate was asked
pub record IsDone {Gate : Type 0} (refused : Gate → Bool) (asked : Gate → ℕ → ℕ → Bool → Gate → Type 0) (s : ScenarioParts) (ring : Ring) (j : Job) (gate : Gate) (e : PolicyEnd) : Type 0 where
  pub ends : EndsAs s j.policy j.state ring j.policy e
  pub turns : RunsByTurns (spec_of ring) (reader_part j.reader) e
  pub gate' : Gate
  pub was_asked : WasAsked asked j.policy (next_block j.state) e gate gate'
  pub held : refused gate' ≡ is_held e

-- each is what the job at its place comes to. The gates stand in the policies' order, so the last job's is the first
pub record AreEnds {Gate : Type 0} (refused : Gate → Bool) (asked : Gate → ℕ → ℕ → Bool → Gate → Type 0) (s : ScenarioParts) (ring : Ring) (jobs : List Job) (gates : List Gate) (ends : List PolicyEnd) : Type 0 where
  pub count : length ends ≡ length jobs
  pub gate_count : length gates ≡ length jobs
  pub each : (i k : ℕ) (j : Job) (gate : Gate) (e : PolicyEnd) → i + k + 1 ≡ length jobs → slice_get jobs i ≡ Some j → slice_get gates k ≡ Some gate → slice_get ends i ≡ Some e
      → IsDone refused asked s ring j gate e

-- threads were started for the last of the jobs, but not for all: each end is what its job comes to
pub record AreStarted {Gate : Type 0} (refused : Gate → Bool) (asked : Gate → ℕ → ℕ → Bool → Gate → Type 0) (s : ScenarioParts) (ring : Ring) (jobs : List Job) (gates : List Gate) (ends : List PolicyEnd) : Type 0 where
  pub fewer : length ends < length jobs
  pub each : (i k p : ℕ) (j : Job) (gate : Gate) (e : PolicyEnd) → i + k + 1 ≡ length ends → p + k + 1 ≡ length jobs → slice_get jobs p ≡ Some j → slice_get gates k ≡ Some gate → slice_get ends i ≡ Some e
      → IsDone refused asked s ring j gate e

-- so of some ends
pub record HaveStarted {Gate : Type 0} (refused : Gate → Bool) (asked : Gate → ℕ → ℕ → Bool → Gate → Type 0) (s : ScenarioParts) (ring : Ring) (jobs : List Job) (gates : List Gate) : Type 0 where
  pub ends : List PolicyEnd
  pub started : AreStarted refused asked s ring jobs gates ends

-- the states and the readers of these ends, those of the last first
pub record Gathers (ends : List PolicyEnd) (states : List Parts) (readers : List Reader) : Type 0 where
  pub state_count : length states ≡ length ends
  pub reader_count : length readers ≡ length ends
  pub states_of : (k : ℕ) (w : Parts) → slice_get states k ≡ Some w → (i : ℕ) → i + k + 1 ≡ length ends → (x : Reader) × (slice_get ends i ≡ Some (Reached w x))
  pub readers_of : (k : ℕ) (x : Reader) → slice_get readers k ≡ Some x → (i : ℕ) → i + k + 1 ≡ length ends → (w : Parts) × (slice_get ends i ≡ Some (Reached w x))

-- ---- what the run comes to

-- From the states `start` before block `first`, the policies have all come to block `upto`, each as its rules say, and so
-- have their readers.
pub record HasRun (s : ScenarioParts) (first : ℕ) (start : List Parts) (upto next : ℕ) (states : List Parts) (readers : List Reader) : Type 0 where
  pub next_is : next ≡ upto
  pub of_scenario : IsCheckpointOf s upto states
  pub onward : EachOnward s start upto states
  pub read : AreReaders s first upto readers
