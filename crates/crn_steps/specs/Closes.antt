-- What `close` answers.
use Rattle.std.specs.Prelude.{◌≡◌, ◌≢◌, ℕ, ◌+◌, ◌<◌, ◌≤◌, List, length, slice_index}
use mathlib.Core.Option.{some}
use lib.ListN.{get_elem?}
use Rattle.crn_limits.specs.declared.TheConstants.{POLICY_LIMIT}
use Rattle.crn_proto.specs.declared.spec.RingSpec.{RingSpec}
use Rattle.crn_proto.specs.declared.actor_parts.ProducerPart.{ProducerPart}
use Rattle.crn_proto.specs.Ring.{left_mark}
use Rattle.crn_steps.specs.declared.closing.Closing.{Closing}
use Rattle.crn_steps.specs.declared.view.View.{View}
use Rattle.crn_steps.specs.Holds.{HasProducer, Holds}
use Rattle.crn_steps.specs.Schedules.{TableState}

-- These are the words of the readers' cursors in the table's last state, in which the rule holds and the producer knows p.
pub record LastCursors (spec : RingSpec) (p : ProducerPart) (cursors : List ℕ) : Type 0 where
  pub last : TableState
  pub rule : Holds spec last
  pub seat : ℕ
  pub view : View
  pub at : get_elem? last.views seat ≡ some view
  pub role : HasProducer view
  pub knows : view.producer ≡ p
  pub word : (r : ℕ) → r < spec.readers → get_elem? last.words (1 + r) ≡ some (slice_index cursors r)

-- The cursors of a ring at its end: each is a count, at most what is published, or the mark of a reader that left, and
-- not below what the producer last loaded of it. Entries past the readers are 0.
pub record Closes (spec : RingSpec) (p : ProducerPart) (c : Closing) : Type 0 where
  pub published : c.published ≡ p.published
  pub ended : c.ended ≡ p.ended
  pub long : length c.cursors ≡ POLICY_LIMIT
  pub cursors : LastCursors spec p c.cursors
  pub at_most : (r : ℕ) → r < spec.readers → slice_index c.cursors r ≢ left_mark → slice_index c.cursors r ≤ c.published
  pub gates_low : (r : ℕ) → r < spec.readers → slice_index p.gates r ≤ slice_index c.cursors r
  pub others : (r : ℕ) → spec.readers ≤ r → r < POLICY_LIMIT → slice_index c.cursors r ≡ 0
