-- The text of a trace: a line for each actor's step, then where the producer and each reader stand.
use Rattle.std.specs.Prelude.{ℕ, zero, suc, List, [], ◌∷◌, ◌++◌, Option, Some, None, codes, decimal}
use Rattle.crn_proto.specs.declared.spec.RingSpec.{RingSpec}
use Rattle.crn_proto.specs.declared.schedule.Actor.{Actor}
use Rattle.crn_proto.specs.declared.schedule.Kind.{Kind}
use Rattle.crn_proto.specs.declared.schedule.Kind.TheVariants.{P1, P2, P3, R1, R2, R3}
use Rattle.crn_proto.specs.declared.schedule.Step.{Step}
use Rattle.crn_proto.specs.Ring.{bit}
use Rattle.crn_proto.specs.Machine.{MachineState, open_machine, machine_after, machine_answers, taker_at}
use Rattle.crn_spelling.specs.Hex.{hex_word}
use Rattle.crn_trace.specs.Schedule.{actor_text}

abbrev pub kind_text : Kind → List ℕ
kind_text P1 = codes "P1"
kind_text P2 = codes "P2"
kind_text P3 = codes "P3"
kind_text R1 = codes "R1"
kind_text R2 = codes "R2"
kind_text R3 = codes "R3"

-- after the actor: its step's kind, word and value, or dashes where it has no step
abbrev pub answer_text : Option Step → List ℕ
answer_text None = codes " - - -"
answer_text (Some step) = codes " " ++ kind_text step.kind ++ codes " " ++ decimal step.word ++ codes " " ++ hex_word step.value

-- a line for each actor and its answer
abbrev pub step_lines : List Actor → List (Option Step) → List ℕ
step_lines [] answers = []
step_lines (who ∷ actors) [] = []
step_lines (who ∷ actors) (answer ∷ answers) = actor_text who ++ answer_text answer ++ codes "\n" ++ step_lines actors answers

-- where the producer stands
unfoldable pub producer_line : MachineState → List ℕ
producer_line m = codes "published " ++ decimal m.published ++ codes " ended " ++ decimal (bit m.ended) ++ codes "\n"

-- where reader r stands
unfoldable pub reader_line : MachineState → ℕ → List ℕ
reader_line m r =
    let t = taker_at m r in
    codes "reader " ++ decimal r ++ codes " taken " ++ decimal t.taken ++ codes " left " ++ decimal (bit t.left) ++ codes " ended " ++ decimal (bit t.seen_end) ++ codes "\n"

-- where the first `count` readers stand, in order
abbrev pub reader_lines : MachineState → ℕ → List ℕ
reader_lines m zero = []
reader_lines m (suc r) = reader_lines m r ++ reader_line m r

-- where all of them stand
abbrev pub standing_text : MachineState → List ℕ
standing_text m = producer_line m ++ reader_lines m m.spec.readers

-- the trace of a schedule from the opened ring on
unfoldable pub trace_text : RingSpec → List Actor → List ℕ
trace_text spec actors =
    let open_ring = open_machine spec in
    step_lines actors (machine_answers open_ring actors) ++ standing_text (machine_after open_ring actors)
