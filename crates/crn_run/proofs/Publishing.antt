-- A batch that is published part by part, and at once if there is room for it.
use Rattle.std.proofs.Common.{◌≡◌, ℕ, zero, suc, ◌+◌, ◌-◌, ◌<◌, ◌≤◌, List, length, take, drop, get_or, refl, sym, ap, subst, ◌∙◌, arith, length-append}
use Rattle.std.proofs.lemmas.List.{get_or-drop, get_or-take, length-drop, length-take}
use Rattle.std.proofs.lemmas.Option.{get_or_from_slice_get, slice_get_read}
use mathlib.Core.Logic.{◌⊎◌, inl, inr}
use native.Mathlib.Nat.{eq-zero-or-pos}
use Rattle.crn_cipher.specs.declared.stream.Block.{Block}
use Rattle.crn_cipher.specs.Following.{FollowOn}
use Rattle.crn_proto.specs.declared.spec.RingSpec.{RingSpec}
use Rattle.crn_proto.specs.declared.actor_parts.ProducerPart.{ProducerPart}
use Rattle.crn_ring.specs.Gates.{HaveRoom, Loaded}
use Rattle.crn_ring.specs.Parts.{IsFull, Publishes, PublishesOnce}
use Rattle.crn_ring.specs.declared.answers.PublishMany.{PublishMany}
use Rattle.crn_run.specs.Feeding.{AfterOffer, Offers, OffersAll}
use Rattle.crn_run.specs.declared.waiting.Counted.{Counted}

-- how many blocks are left after the first `start`
pub rest_length : (blocks : List Block) (start : ℕ) → length (take (length blocks - start) (drop start blocks)) ≡ length blocks - start
rest_length blocks start = omega (arith, length-take (length blocks - start) (drop start blocks), length-drop start blocks)

-- the rest of blocks that follow one another do so too
pub rest_follows : (key : List ℕ) (n n' start : ℕ) (blocks : List Block) → start ≤ length blocks → n' ≡ n + start → FollowOn key n (length blocks) blocks
    → FollowOn key n' (length (take (length blocks - start) (drop start blocks))) (take (length blocks - start) (drop start blocks))
rest_follows key n n' start blocks le there follow j b lt is =
    let count : ℕ = length blocks - start in
    let below : j < count = omega (arith, lt, rest_length blocks start) in
    let here : start + j < length blocks = omega (arith, below) in
    let read : get_or (take count (drop start blocks)) j b ≡ b = get_or_from_slice_get (take count (drop start blocks)) j b b is in
    let found : b ≡ get_or blocks (start + j) b = sym read ∙ (get_or-take count (drop start blocks) j b below ∙ get_or-drop start blocks j b) in
    let block : (b.key ≡ key) × (b.number ≡ n + (start + j)) = follow (start + j) b here (slice_get_read blocks (length blocks) (start + j) b refl here found) in
    (block.0, omega (arith, block.1, there))

-- If there was room for all m blocks, either none of them is published yet or all are, by one store.
pub record AtOnce (spec : RingSpec) (m start : ℕ) (p p' : ProducerPart) : Type 0 where
  pub none : start ≡ 0 → p' ≡ p
  pub all : 0 < start → (start ≡ m) × PublishesOnce spec p p' m

-- no cursor was loaded
loaded_none : (k : ℕ) (p p' : ProducerPart) → p'.loads ≡ p.loads → Loaded k p p' → k ≡ 0
loaded_none k p p' same h = omega (arith, ap length (sym same ∙ h.added), length-append p.loads h.entries, h.one_each)

pub once_begins : (spec : RingSpec) (m : ℕ) (p : ProducerPart) → AtOnce spec m 0 p p
once_begins spec m p = record { none = λ _. refl; all = λ lt. absurd (omega (arith, lt)) }

pub once_done : (spec : RingSpec) (m start rest count : ℕ) (p q q' : ProducerPart) → start < m → rest ≡ m - start → (HaveRoom spec p m → AtOnce spec m start p q)
    → (HaveRoom spec q rest → q'.loads ≡ q.loads) → Publishes spec q q' rest count → HaveRoom spec p m → AtOnce spec m (start + count) p q'
once_done spec m (suc s) rest count p q q' lt rest_is before quiet done room = absurd (omega (arith, lt, ((before room).all (omega arith)).0))
once_done spec m zero rest count p q q' lt rest_is before quiet done room = go (eq-zero-or-pos (rest - count))
  where
    same : q ≡ p
    same = (before room).none refl

    whole : rest ≡ m
    whole = omega (arith, rest_is)

    loads : q'.loads ≡ q.loads
    loads = quiet (subst (λ (k : ℕ). HaveRoom spec q k) (sym whole) (subst (λ (x : ProducerPart). HaveRoom spec x m) (sym same) room))

    all : count ≡ m → AtOnce spec m (zero + count) p q'
    all is = record {
      none = λ h. absurd (omega (arith, done.some, h));
      all = λ _. (omega (arith, is), subst (λ (k : ℕ). PublishesOnce spec p q' k) is (subst (λ (x : ProducerPart). PublishesOnce spec x q' count) same done.once));
    }

    go : (rest - count ≡ zero) ⊎ (zero < rest - count) → AtOnce spec m (zero + count) p q'
    go (inl none) = all (omega (arith, none, done.at_most, whole))
    go (inr some) =
        let full = done.until_full (omega (arith, some)) in
        absurd (omega (arith, loaded_none spec.readers q q' loads full.0, full.1.1))

pub once_full : (spec : RingSpec) (m start rest r taken : ℕ) (p q q' : ProducerPart) → start < m → rest ≡ m - start → (HaveRoom spec p m → AtOnce spec m start p q)
    → (HaveRoom spec q rest → q'.loads ≡ q.loads) → IsFull spec q q' r taken → HaveRoom spec p m → AtOnce spec m start p q'
once_full spec m (suc s) rest r taken p q q' lt rest_is before quiet full room = absurd (omega (arith, lt, ((before room).all (omega arith)).0))
once_full spec m zero rest r taken p q q' lt rest_is before quiet full room =
    let same : q ≡ p = (before room).none refl in
    let whole : rest ≡ m = omega (arith, rest_is) in
    let loads : q'.loads ≡ q.loads = quiet (subst (λ (k : ℕ). HaveRoom spec q k) (sym whole) (subst (λ (x : ProducerPart). HaveRoom spec x m) (sym same) room)) in
    absurd (omega (arith, loaded_none (r + 1) q q' loads full.loaded))

-- one look more, for all that is left
pub one_look : (spec : RingSpec) (m start rest : ℕ) (p q q' : ProducerPart) (u v w : Counted) (answer : PublishMany) → ((count : ℕ) × OffersAll count spec (p.published + m) p u q v) → start < m → rest ≡ m - start
    → q.published ≡ p.published + start → AfterOffer spec rest q v q' w answer → (count : ℕ) × OffersAll count spec (p.published + m) p u q' w
one_look spec m start rest p q q' u v w answer before lt rest_is there after =
    let offers : Offers spec (p.published + m) q v q' w = record { left = rest; some = omega (arith, lt, rest_is); all = omega (arith, lt, rest_is, there); answer = answer; after = after } in
    (suc before.0, (q, v, before.1, offers))
