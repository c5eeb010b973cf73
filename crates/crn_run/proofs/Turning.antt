-- One turn of a policy's run after another.
use Rattle.std.proofs.Common.{◌≡◌, ◌≢◌, ℕ, suc, List, length, refl, subst, sym}
use mathlib.Core.Logic.{dite}
use native.Mathlib.Decide.{ℕ_discrete}
use Rattle.crn_cipher.specs.declared.stream.Block.{Block}
use Rattle.crn_proto.specs.declared.spec.RingSpec.{RingSpec}
use Rattle.crn_proto.specs.declared.actor_parts.ReaderPart.{ReaderPart}
use Rattle.crn_ring.specs.Calls.{reader_part}
use Rattle.crn_ring.specs.declared.reader.Reader.{Reader}
use Rattle.crn_ring.specs.declared.answers.Batch.{Batch}
use Rattle.crn_stock.specs.Parts.{Parts}
use Rattle.crn_run.specs.Turns.{AfterTurn, RunsByTurns, TakesByTurns, Turn, WaitsAfter}
use Rattle.crn_run.specs.declared.waiting.Counted.{Counted}
use Rattle.crn_run.specs.declared.worker.PolicyEnd.{PolicyEnd}
use Rattle.crn_run.specs.declared.worker.PolicyEnd.TheVariants.{Reached, Short}

pub no_turn : (spec : RingSpec) (q : ReaderPart) (w : Counted) → w.awake ≡ 0 → TakesByTurns spec q q w
no_turn spec q w unwaited = record { count = 0; first = w; unwaited = unwaited; turns = (refl, refl) }

pub next_turn : (spec : RingSpec) (q b q' : ReaderPart) (v w' : Counted) (out out' : List Block) (answer : Batch) → TakesByTurns spec q b v → length out ≡ 16 → AfterTurn spec b q' out out' answer → WaitsAfter spec q' v w' answer
    → TakesByTurns spec q q' w'
next_turn spec q b q' v w' out out' answer before places takes waits =
    let turn : Turn spec b v q' w' = record { out = out; out' = out'; places = places; answer = answer; takes = takes; waits = waits } in
    record { count = suc before.count; first = before.first; unwaited = before.unwaited; turns = (b, v, before.turns, turn) }

-- the end of a run whose reader has seen the end, at the total or before
pub by_turns : (spec : RingSpec) (q : ReaderPart) (n all : ℕ) (v : Parts) (x : Reader) (e : PolicyEnd) (w : Counted) → TakesByTurns spec q (reader_part x) w → (n ≡ all → e ≡ Reached v x) → (n ≢ all → e ≡ Short n v x) → RunsByTurns spec q e
by_turns spec q n all v x e w turns total early =
    dite (ℕ_discrete n all)
    (λ is. subst (RunsByTurns spec q) (sym (total is)) (w, turns))
    (λ not. subst (RunsByTurns spec q) (sym (early not)) (w, turns))
