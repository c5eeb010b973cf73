-- A row more of a batch.
use Rattle.std.proofs.Common.{◌≡◌, ℕ, ◌+◌, List, ◌++◌, length, set, arith, append_assoc, length-append, inl, inr}
use Rattle.crn_cipher.specs.declared.stream.Block.{Block}
use Rattle.crn_cipher.specs.Following.{FollowOn}
use Rattle.crn_proto.specs.declared.spec.RingSpec.{RingSpec}
use Rattle.crn_proto.specs.Ring.{StoreWord}
use Rattle.crn_proto.proofs.Parts.{get_set_cases}
use Rattle.crn_steps.specs.declared.view.View.{View}
use Rattle.crn_steps.specs.Plays.{ProducerGoesOn}
use Rattle.crn_ring.specs.Inner.Plays.{read_many, wrote_many}

pub read_many_join : (ns ms : List ℕ) (v : View) → read_many ms (read_many ns v) ≡ read_many (ns ++ ms) v
read_many_join ns ms v = λ i. record v { reader = record v.reader { read = append_assoc v.reader.read ns ms i; steps = (let e : (v.reader.steps + length ns) + length ms ≡ v.reader.steps + length (ns ++ ms) = omega (arith, length-append ns ms) in e) i } }

pub wrote_many_join : (a b : ℕ) (v : View) → wrote_many b (wrote_many a v) ≡ wrote_many (a + b) v
wrote_many_join a b v = λ i. record v {
  producer = record v.producer {
    stored = (let e : (v.producer.stored + a) + b ≡ v.producer.stored + (a + b) = omega arith in e) i;
    steps = (let e : (v.producer.steps + a) + b ≡ v.producer.steps + (a + b) = omega arith in e) i;
  };
}

-- after some words the producer may store one more
pub stores_on : (spec : RingSpec) (k : ℕ) (v : View) → ProducerGoesOn spec v.producer v.passed StoreWord → ProducerGoesOn spec (wrote_many k v).producer (wrote_many k v).passed StoreWord
stores_on spec k v on = elim on [ inl some ↦ inl (omega arith) | inr at ↦ inr at ]

pub filled_more : (key : List ℕ) (n k : ℕ) (out : List Block) (y : Block) → y.key ≡ key → y.number ≡ n + k → FollowOn key n k out → FollowOn key n (k + 1) (set out k y)
filled_more key n k out y keyed numbered old j b h e = elim (get_set_cases out k j y b e) [ inl (at, is) ↦ rw (at, is) (keyed, numbered) | inr (ne, there) ↦ old j b (omega arith) there ]
