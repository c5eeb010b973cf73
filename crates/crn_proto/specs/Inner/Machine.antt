-- What a machine's state keeps between two steps.
use Rattle.std.specs.Prelude.{◌≡◌, ℕ, ◌+◌, ◌*◌, ◌<◌, ◌≤◌, true, length, slice_index}
use Rattle.crn_cipher.specs.declared.TheConstants.{BLOCK_WORDS}
use Rattle.crn_limits.specs.declared.TheConstants.{BLOCK_LIMIT, POLICY_LIMIT, SLOT_LIMIT}
use Rattle.crn_proto.specs.declared.machine.Taker.{Taker}
use Rattle.crn_proto.specs.Ring.{word_count, bit}
use Rattle.crn_proto.specs.Machine.{MachineState, taker_at}

-- a taker's count stays below the total while it reads
pub record TakerFits (total : ℕ) (t : Taker) : Type 0 where
  pub low : t.taken ≤ total
  pub reads : t.reading ≡ true → t.taken < total
  pub few : t.read ≤ BLOCK_WORDS

-- what the machine's fields keep
pub record MachineFits (m : MachineState) : Type 0 where
  pub words : length m.words ≡ word_count m.spec
  pub has_slots : 0 < m.spec.size
  pub size : m.spec.size ≤ SLOT_LIMIT
  pub readers : m.spec.readers ≤ POLICY_LIMIT
  pub total : m.spec.id.total ≤ BLOCK_LIMIT
  pub in_total : m.published ≤ m.spec.id.total
  pub cursor : slice_index m.words 0 ≡ 2 * m.published + bit m.ended
  pub passed : m.passed ≤ m.spec.readers
  pub stored : m.stored ≤ BLOCK_WORDS
  pub takers : length m.takers ≡ m.spec.readers
  pub each : (r : ℕ) → r < m.spec.readers → TakerFits m.spec.id.total (taker_at m r)
