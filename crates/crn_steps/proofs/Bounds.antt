-- A step is a move.
use Rattle.std.proofs.Common.{◌≡◌, ℕ, ap, subst}
use Rattle.atomic_table.specs.Table.{Step}
use Rattle.crn_proto.specs.declared.spec.RingSpec.{RingSpec}
use Rattle.crn_proto.specs.Ring.{ProducerMove, ProducerMay, producer_after, ReaderMove, ReaderMay, reader_after}
use Rattle.crn_proto.specs.Chains.{ProducerReaches, ReaderReaches}
use Rattle.crn_proto.proofs.Chains.{reaches_one}
use Rattle.crn_steps.specs.Plays.{Sat, MadeByProducer, MadeByReader}

-- a step that is a move leads by one move
pub producer_goes : (spec : RingSpec) (move : ProducerMove) (st : Step (Unit {0})) (m m' : Sat) (n : ℕ) → m.0.spec ≡ spec → MadeByProducer move st m n m' → ProducerReaches spec m.0.producer 1 m'.0.producer
producer_goes spec move st m m' n same made =
    reaches_one (ProducerMay spec) producer_after move n m.0.producer m'.0.producer (subst (λ (z : RingSpec). ProducerMay z m.0.producer move) same made.may) (ap (λ (z : Sat). z.0.producer) made.view)

pub reader_goes : (move : ReaderMove) (st : Step (Unit {0})) (m m' : Sat) (n : ℕ) → MadeByReader move st m n m' → ReaderReaches m.0.reader 1 m'.0.reader
reader_goes move st m m' n made = reaches_one ReaderMay reader_after move n m.0.reader m'.0.reader made.may (ap (λ (z : Sat). z.0.reader) made.view)
