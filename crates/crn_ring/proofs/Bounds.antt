-- So many moves are so many steps.
use Rattle.std.proofs.Common.{◌≡◌, ℕ, ◌+◌, ◌≤◌, List, [], ◌∷◌, length, refl, ap, ◌∙◌, arith}
use Rattle.crn_proto.specs.declared.spec.RingSpec.{RingSpec}
use Rattle.crn_proto.specs.declared.actor_parts.ProducerPart.{ProducerPart}
use Rattle.crn_proto.specs.declared.actor_parts.ReaderPart.{ReaderPart}
use Rattle.crn_proto.specs.Ring.{ProducerMove, LoadGate, ProducerMay, producer_after, ReaderMove, LoadCursor, ReaderMay, reader_after}
use Rattle.crn_proto.specs.Chains.{Chain, ProducerReaches, ReaderReaches}

producer_step : (p : ProducerPart) (m : ProducerMove) (x : ℕ) → (producer_after p m x).steps ≡ p.steps + 1
producer_step p (LoadGate r) x = refl
producer_step p m x = refl

producer_chain : (spec : RingSpec) (p q : ProducerPart) (xs : List (ProducerMove × ℕ)) → Chain (ProducerMay spec) producer_after p xs q → q.steps ≡ p.steps + length xs
producer_chain spec p q [] c = ap (λ (z : ProducerPart). z.steps) c ∙ omega arith
producer_chain spec p q (x ∷ xs) c = producer_chain spec (producer_after p x.0 x.1) q xs c.1 ∙ (let one = producer_step p x.0 x.1 in omega arith)

pub producer_steps : (spec : RingSpec) (p q : ProducerPart) (a b c : ℕ) → ProducerReaches spec p (a + b + c) q → q.steps ≤ p.steps + a + b + c
producer_steps spec p q a b c reaches = let e = producer_chain spec p q reaches.0 reaches.1 in let few = reaches.2 in omega arith

reader_step : (p : ReaderPart) (m : ReaderMove) (x : ℕ) → (reader_after p m x).steps ≡ p.steps + 1
reader_step p LoadCursor x = refl
reader_step p m x = refl

reader_chain : (p q : ReaderPart) (xs : List (ReaderMove × ℕ)) → Chain ReaderMay reader_after p xs q → q.steps ≡ p.steps + length xs
reader_chain p q [] c = ap (λ (z : ReaderPart). z.steps) c ∙ omega arith
reader_chain p q (x ∷ xs) c = reader_chain (reader_after p x.0 x.1) q xs c.1 ∙ (let one = reader_step p x.0 x.1 in omega arith)

pub reader_steps : (p q : ReaderPart) (a b : ℕ) → ReaderReaches p (a + b) q → q.steps ≤ p.steps + a + b
reader_steps p q a b reaches = let e = reader_chain p q reaches.0 reaches.1 in let few = reaches.2 in omega arith
