-- How the run of one policy ends.
use Rattle.std.specs.Prelude.{◌≡◌, ℕ, ◌<◌, Bool, true, false, Some, slice_get}
use Rattle.crn_stock.specs.Parts.{Parts}
use Rattle.crn_stock.specs.Models.{ScenarioParts}
use Rattle.crn_stock.specs.Stock.{At, OnwardAt, next_block}
use Rattle.crn_stock.specs.declared.policy.Policy.{Policy}
use Rattle.crn_ring.specs.declared.ring.Ring.{Ring}
use Rattle.crn_ring.specs.declared.reader.Reader.{Reader}
use Rattle.crn_ring.specs.Calls.{HasLeft, IsReaderOf, reader_number, reader_part, spec_of}
use Rattle.crn_sequential.specs.Runs.{StandsBefore}
use Rattle.crn_run.specs.declared.worker.PolicyEnd.{PolicyEnd}
use Rattle.crn_run.specs.declared.worker.PolicyEnd.TheVariants.{Reached, Short, Held}

-- w stands before block n, and is what policy k's state v becomes by the blocks from its next one on
pub record IsRun (s : ScenarioParts) (k : ℕ) (v : Parts) (n : ℕ) (w : Parts) : Type 0 where
  pub stands : StandsBefore s.model n w
  pub at : (p : Policy) → slice_get s.policies k ≡ Some p → At s.model p s.key (next_block v) v → At s.model p s.key n w
  pub onward : (p : Policy) → slice_get s.policies k ≡ Some p → OnwardAt s.model p s.key v n w

-- x is reader number r of the ring; it has taken the blocks below n, and has seen the end there
pub record HasReadAll (ring : Ring) (r n : ℕ) (x : Reader) : Type 0 where
  pub of_ring : IsReaderOf ring x
  pub number : reader_number x ≡ r
  pub ended : (reader_part x).seen_end ≡ true
  pub taken : (reader_part x).taken ≡ n

-- the end of a run of policy number k from the state v, by reader number r of the ring
abbrev pub EndsAs : ScenarioParts → ℕ → Parts → Ring → ℕ → PolicyEnd → Type 0
EndsAs s k v ring r (Reached w x) = IsRun s k v (spec_of ring).id.total w × HasReadAll ring r (spec_of ring).id.total x
EndsAs s k v ring r (Short n w x) = (n < (spec_of ring).id.total) × IsRun s k v n w × HasReadAll ring r n x
EndsAs s k v ring r (Held w x) = (next_block w < (spec_of ring).id.total) × IsRun s k v (next_block w) w × HasLeft ring r x

-- whether the gate has held the run
abbrev pub is_held : PolicyEnd → Bool
is_held (Reached w x) = false
is_held (Short n w x) = false
is_held (Held w x) = true
