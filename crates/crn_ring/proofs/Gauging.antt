-- One gate more.
use Rattle.std.proofs.Common.{◌≡◌, ℕ, ◌+◌, ◌<◌, List, [], ◌∷◌, ◌++◌, length, get_or, set, refl, sym, ap, ◌∙◌, subst, arith, append_assoc, length-append, get_or-set_same, get_or-set_other, inl, inr, min}
use Rattle.std.proofs.Math.ListN.{get_or-append}
use Rattle.std.proofs.lemmas.Bool.{cases_lt, cases_eq, eq-eqb, ne_eqb, lt-ltb, le-ltb}
use Rattle.std.proofs.lemmas.List.{append-nil, get_or_push}
use Rattle.std.proofs.lemmas.Option.{get_or_from_slice_get, slice_get-get_or}
use mathlib.Core.Logic.{dite}
use native.Mathlib.Decide.{ℕ_discrete}
use Rattle.std.specs.Prelude.{slice_set, slice_index, Some}
use Rattle.crn_proto.specs.declared.spec.RingSpec.{RingSpec}
use Rattle.crn_proto.specs.declared.actor_parts.ProducerPart.{ProducerPart}
use Rattle.crn_proto.specs.Ring.{left_mark, LoadGate, producer_after}
use Rattle.crn_steps.specs.declared.view.View.{View}
use Rattle.crn_ring.specs.Gates.{Loaded, Passes}
use Rattle.crn_ring.specs.Inner.Gates.{LeastOf}
use Rattle.crn_steps.specs.Plays.{by_producer, passed_after}
use Rattle.crn_ring.specs.Inner.Plays.{Gauged}

loaded_none : (p : ProducerPart) → Loaded 0 p p
loaded_none p = record { entries = []; added = sym (append-nil p.loads); one_each = refl; in_order = λ q h. absurd (omega arith) }

pub loaded_more : (r x : ℕ) (p p' : ProducerPart) → Loaded r p p' → r < length p'.gates → Loaded (r + 1) p (producer_after p' (LoadGate r) x)
loaded_more r x p p' l inside = let gates : List ℕ = p'.gates in let es : List (ℕ × ℕ) = l.entries in let e : ℕ × ℕ = (r, x) in record {
  entries = es ++ e ∷ [];
  added = ap (λ (xs : List (ℕ × ℕ)). xs ++ e ∷ []) l.added ∙ append_assoc p.loads es (e ∷ []);
  one_each = (let many : length es ≡ r = l.one_each in omega (arith, length-append es (e ∷ [])));
  in_order = λ q h. let many : length es ≡ r = l.one_each in
      slice_get-get_or (es ++ e ∷ []) q e (omega (arith, length-append es (e ∷ [])))
      ∙ ap Some (dite (ℕ_discrete q r)
      (λ same. get_or_push es e e q (many ∙ sym same) ∙ (λ i. (sym same i, sym (ap (λ (z : ℕ). get_or (set gates r x) z 0) same ∙ get_or-set_same gates r x 0 inside) i)))
      (λ other. get_or-append es (e ∷ []) e q (omega arith) ∙ get_or_from_slice_get es q (q, get_or gates q 0) e (l.in_order q (omega arith))
      ∙ (λ i. (q, sym (get_or-set_other gates r q x 0 other) i))));
}

pub gauged_none : (size n : ℕ) (v : View) → Gauged size n 0 v v
gauged_none size n v = record {
  same = λ i. record v {
    producer = record v.producer { steps = (let e : v.producer.steps ≡ v.producer.steps + 0 = omega arith in e) i };
    passed = (let e : v.passed ≡ v.passed + 0 = omega arith in e) i;
  };
  loaded = loaded_none v.producer;
  passed = λ q h. absurd (omega arith);
  kept = λ q h. refl;
}

-- a gate that has room for the next block is passed; at one that has none the producer begins with the first again
pub passes_on : (spec : RingSpec) (p : ProducerPart) (passed r x : ℕ) → Passes spec.size p.published x → passed_after spec p passed (LoadGate r) x ≡ passed + 1
passes_on spec p passed r x room = elim (cases_eq x left_mark) [
  | inl e ↦ rw (eq-eqb x left_mark e) refl
  | inr ne ↦ rw (ne_eqb x left_mark ne, lt-ltb p.published (x + spec.size) (room ne)) refl
]

pub begins_again : (spec : RingSpec) (p : ProducerPart) (passed r x : ℕ) → p.published < left_mark → p.published ≡ x + spec.size → passed_after spec p passed (LoadGate r) x ≡ 0
begins_again spec p passed r x small full = rw (ne_eqb x left_mark (λ e. omega arith), le-ltb p.published (x + spec.size) (omega arith)) refl

-- the steps, and what else a load leaves as it was
pub gauged_same : (size n r x : ℕ) (v v' : View) → Gauged size n r v v'
    → by_producer (LoadGate r) x v' ≡ record v { producer = record v.producer { gates = slice_set v'.producer.gates r x; loads = v'.producer.loads ++ (r, x) ∷ []; steps = v.producer.steps + (r + 1) }; passed = passed_after v'.spec v'.producer v'.passed (LoadGate r) x }
gauged_same size n r x v v' g = let gates : List ℕ = v'.producer.gates in let now : ℕ = passed_after v'.spec v'.producer v'.passed (LoadGate r) x in
    ap (λ (u : View). record u { producer = record u.producer { gates = slice_set gates r x; loads = v'.producer.loads ++ (r, x) ∷ []; steps = u.producer.steps + 1 }; passed = now }) g.same
    ∙ ap (λ (k : ℕ). record v { producer = record v.producer { gates = slice_set gates r x; loads = v'.producer.loads ++ (r, x) ∷ []; steps = k }; passed = now }) (omega arith)

pub gauged_more : (size n r x : ℕ) (v v' : View) → v'.spec.size ≡ size → v'.producer.published ≡ n → Gauged size n r v v' → r < length v'.producer.gates → Passes size n x → Gauged size n (r + 1) v (by_producer (LoadGate r) x v')
gauged_more size n r x v v' slots counts g inside p = let gates : List ℕ = v'.producer.gates in record {
  same = gauged_same size n r x v v' g
      ∙ ap (λ (k : ℕ). record v { producer = record v.producer { gates = slice_set gates r x; loads = v'.producer.loads ++ (r, x) ∷ []; steps = v.producer.steps + (r + 1) }; passed = k })
      (passes_on v'.spec v'.producer v'.passed r x (subst (λ (z : ℕ × ℕ). Passes z.0 z.1 x) (λ i. (sym slots i, sym counts i)) p)
      ∙ (let was : v'.passed ≡ v.passed + r = ap (λ (u : View). u.passed) g.same in omega arith));
  loaded = loaded_more r x v.producer v'.producer g.loaded inside;
  passed = λ q h. dite (ℕ_discrete q r)
      (λ e. subst (Passes size n) (sym (ap (λ (z : ℕ). get_or (set gates r x) z 0) e ∙ get_or-set_same gates r x 0 inside)) p)
      (λ ne. subst (Passes size n) (sym (get_or-set_other gates r q x 0 ne)) (g.passed q (omega arith)));
  kept = λ q h. get_or-set_other gates r q x 0 (λ e. omega arith) ∙ g.kept q (omega arith);
}

-- the least of no gates, and of one more
pub least_none : (gates : List ℕ) → LeastOf 0 gates left_mark
least_none gates = record { low = λ q h. absurd (omega arith); high = omega arith; met = inl refl }

pub least_more : (r : ℕ) (gates : List ℕ) (least x : ℕ) → LeastOf r gates least → r < length gates → LeastOf (r + 1) (set gates r x) (min least x)
least_more r gates least x old inside = record {
  low = λ q h. dite (ℕ_discrete q r)
      (λ e. let is : get_or (set gates r x) q 0 ≡ x = ap (λ (z : ℕ). get_or (set gates r x) z 0) e ∙ get_or-set_same gates r x 0 inside in omega arith)
      (λ ne. let is : get_or (set gates r x) q 0 ≡ get_or gates q 0 = get_or-set_other gates r q x 0 ne in let low = old.low q (omega arith) in omega arith);
  high = let h = old.high in omega arith;
  met = elim (cases_lt x least) [
    | inl below ↦ inr (r, omega arith, get_or-set_same gates r x 0 inside ∙ omega arith)
    | inr above ↦ elim old.met [
      | inl e ↦ inl (omega arith)
      | inr there ↦ inr (there.0, (let h = there.1 in omega arith), get_or-set_other gates r there.0 x 0 (let h = there.1 in λ e. omega arith) ∙ (there.2 ∙ omega arith))
    ]
  ];
}

-- the least of gates that all let block n in has room for it
pub least_room : (size n r least : ℕ) (gates : List ℕ) → n < left_mark → ((q : ℕ) → q < r → Passes size n (slice_index gates q)) → LeastOf r gates least → n < least + size
least_room size n r least gates below passed l = elim l.met [
  | inl e ↦ omega arith
  | inr there ↦ elim (cases_eq least left_mark) [
    | inl e ↦ omega arith
    | inr ne ↦ let is = there.2 in let room : n < slice_index gates there.0 + size = passed there.0 there.1 (λ e. ne (sym is ∙ e)) in omega arith
  ]
]
