-- What the words of a state that meets the rule say to the producer.
use Rattle.std.proofs.Common.{◌≡◌, ℕ, ◌+◌, ◌*◌, ◌/◌, ◌%◌, ◌<◌, ◌≤◌, ◌≢◌, Bool, true, false, List, get_or, eqb, inl, inr, sym, ◌∙◌, arith, slice_index}
use mathlib.Core.Option.{some}
use lib.ListN.{get_elem?}
use Rattle.std.proofs.lemmas.Option.{get_or_from_slice_get}
use Rattle.atomic_table.specs.Table.{State}
use Rattle.crn_proto.specs.declared.spec.RingSpec.{RingSpec}
use Rattle.crn_proto.specs.Ring.{left_mark, bit}
use Rattle.crn_proto.specs.declared.actor_parts.Part.TheVariants.{OfProducer}
use Rattle.crn_proto.specs.Lawful.{ProducerLaw}
use Rattle.crn_steps.specs.declared.view.View.{View}
use Rattle.crn_steps.specs.Holds.{Holds, HasProducer}
use Rattle.crn_steps.proofs.Allowed.{got, producer_alone, own_law}

pub at_get : (l : List ℕ) (i a : ℕ) → get_elem? l i ≡ some a → get_or l i 0 ≡ a
at_get l i a e = get_or_from_slice_get l i a 0 (got l i a e)

marked : (n : ℕ) (b : Bool) (c : ℕ) → c ≡ 2 * n + bit b → (c / 2 ≡ n) × (eqb (c % 2) 1 ≡ b)
marked n true c e = (omega arith, grind (arith, e))
marked n false c e = (omega arith, grind (arith, e))

module _ (spec : RingSpec) (s : State (Unit {0}) View) (id : ℕ) (v : View) (law : Holds spec s) (at : get_elem? s.views id ≡ some v) (is : HasProducer v) where
  own : ProducerLaw spec s.words v.producer
  own = own_law spec s id v (OfProducer v.producer) law at (producer_alone v is)

  pub cursor_says : (c : ℕ) → get_elem? s.words 0 ≡ some c → (c / 2 ≡ v.producer.published) × (eqb (c % 2) 1 ≡ v.producer.ended)
  cursor_says c e = marked v.producer.published v.producer.ended c (sym (at_get s.words 0 c e) ∙ own.cursor)

  pub gate_says : (r c : ℕ) → r < spec.readers → get_elem? s.words (1 + r) ≡ some c → (c ≢ left_mark → c ≤ get_or s.words 0 0 / 2) × (slice_index v.producer.gates r ≤ c)
  gate_says r c inside e =
      let same : get_or s.words (1 + r) 0 ≡ c = at_get s.words (1 + r) c e in
      let low = own.gates_low r inside in (
        λ ne. elim (law.rule.lawful.of_words.cursors r inside) [ inl mark ↦ absurd (ne (sym same ∙ mark)) | inr both ↦ let high = both.0 in omega arith ],
        omega arith,
      )
