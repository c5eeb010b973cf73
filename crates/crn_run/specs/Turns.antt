-- What a policy's run takes of the ring, turn by turn, and when it waits.
use Rattle.std.specs.Prelude.{◌≡◌, ℕ, zero, suc, ◌+◌, ◌<◌, ◌≤◌, false, List, length}
use Rattle.crn_cipher.specs.declared.stream.Block.{Block}
use Rattle.crn_cipher.specs.Following.{FollowOn}
use Rattle.crn_proto.specs.declared.spec.RingSpec.{RingSpec}
use Rattle.crn_proto.specs.declared.actor_parts.ReaderPart.{ReaderPart}
use Rattle.crn_proto.specs.Chains.{ReaderReaches}
use Rattle.crn_ring.specs.Calls.{AfterBatch, AfterShown, left_part, reader_part}
use Rattle.crn_ring.specs.declared.answers.Batch.{Batch}
use Rattle.crn_ring.specs.declared.answers.Batch.TheVariants.{Got, Empty, Ended}
use Rattle.crn_run.specs.Waits.{Waits, reader_sleep}
use Rattle.crn_run.specs.declared.pausing.Pause.{Pause}
use Rattle.crn_run.specs.declared.waiting.Counted.{Counted}
use Rattle.crn_run.specs.declared.worker.PolicyEnd.{PolicyEnd}
use Rattle.crn_run.specs.declared.worker.PolicyEnd.TheVariants.{Reached, Short, Held}

-- The next blocks were taken: of what the last look had shown or, if none was left, of one look.
pub record TakesNext (spec : RingSpec) (q q' : ReaderPart) (out out' : List Block) (count : ℕ) : Type 0 where
  pub some : 0 < count
  pub taken : q'.taken ≡ q.taken + count
  pub running : q'.seen_end ≡ false
  pub follow : FollowOn spec.id.key q.taken count out'
  pub shown : q.taken < q.seen → AfterShown spec q q' out out' count
  pub looked : q.seen ≤ q.taken → AfterBatch spec q q' out out' (Got count)

-- After each answer of a turn.
abbrev pub AfterTurn : RingSpec → ReaderPart → ReaderPart → List Block → List Block → Batch → Type 0
AfterTurn spec q q' out out' (Got count) = TakesNext spec q q' out out' count
AfterTurn spec q q' out out' (Empty published) = AfterBatch spec q q' out out' (Empty published)
AfterTurn spec q q' out out' (Ended published) = AfterBatch spec q q' out out' (Ended published)

-- One wait, if the look showed no block and no end.
abbrev pub WaitsAfter : RingSpec → ReaderPart → Counted → Counted → Batch → Type 0
WaitsAfter spec q' w w' (Got count) = w' ≡ w
WaitsAfter spec q' w w' (Empty published) = (pause : Pause) × Waits spec.size (reader_sleep spec.size) q'.taken w w' pause
WaitsAfter spec q' w w' (Ended published) = w' ≡ w

-- Up to 16 blocks are taken, or a look shows none.
pub record Turn (spec : RingSpec) (q : ReaderPart) (w : Counted) (q' : ReaderPart) (w' : Counted) : Type 0 where
  pub out : List Block
  pub out' : List Block
  pub places : length out ≡ 16
  pub answer : Batch
  pub takes : AfterTurn spec q q' out out' answer
  pub waits : WaitsAfter spec q' w w' answer

-- So many turns.
abbrev pub Turns : ℕ → RingSpec → ReaderPart → Counted → ReaderPart → Counted → Type 0
Turns zero spec q w q' w' = (q' ≡ q) × (w' ≡ w)
Turns (suc count) spec q w q' w' = (between : ReaderPart) × (v : Counted) × Turns count spec q w between v × Turn spec between v q' w'

-- Turns of a thread that has not waited before.
pub record TakesByTurns (spec : RingSpec) (q q' : ReaderPart) (w' : Counted) : Type 0 where
  pub count : ℕ
  pub first : Counted
  pub unwaited : first.awake ≡ 0
  pub turns : Turns count spec q first q' w'

-- A run's reader comes by turns to its end, and then leaves if it was held.
abbrev pub RunsByTurns : RingSpec → ReaderPart → PolicyEnd → Type 0
RunsByTurns spec q (Reached v x) = (w : Counted) × TakesByTurns spec q (reader_part x) w
RunsByTurns spec q (Short n v x) = (w : Counted) × TakesByTurns spec q (reader_part x) w
RunsByTurns spec q (Held v x) = (w : Counted) × (q' : ReaderPart) × TakesByTurns spec q q' w × ReaderReaches q' 1 (left_part x)
