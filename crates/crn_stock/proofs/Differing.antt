-- Names that differ, one policy after another.
use Rattle.std.proofs.Common.{◌≡◌, ◌≢◌, ℕ, ◌+◌, ◌-◌, ◌<◌, zero, suc, List, [], ◌∷◌, All, length, get_or, drop, refl, ap, sym, ◌∙◌, arith}
use Rattle.std.specs.List.{AllPairs}
use Rattle.std.proofs.lemmas.List.{get_or-drop, length-drop}
use Rattle.crn_stock.specs.declared.policy.Policy.{Policy}

any_default : (ps : List Policy) (i : ℕ) (d e : Policy) → i < length ps → get_or ps i d ≡ get_or ps i e
any_default [] i d e lt = absurd (omega (arith, lt))
any_default (p ∷ ps) zero d e lt = refl
any_default (p ∷ ps) (suc i) d e lt = any_default ps i d e (omega (arith, lt))

pub from_later : (ps : List Policy) (i : ℕ) (p : Policy) → p ≡ get_or ps i p → i < length ps → All (λ q. p.name ≢ q.name) (drop (i + 1) ps)
    → (j : ℕ) (d : Policy) → i < j → j < length ps → (get_or ps i d).name ≢ (get_or ps j d).name
from_later ps i p at lt differ j d after inside e =
    let k = j - (i + 1) in
    let place : i + 1 + k ≡ j = omega arith in
    let within : k < length (drop (i + 1) ps) = rw (length-drop) (omega arith) in
    let there : get_or (drop (i + 1) ps) k d ≡ get_or ps j d = get_or-drop (i + 1) ps k d ∙ ap (λ (n : ℕ). get_or ps n d) place in
    let here : p ≡ get_or ps i d = at ∙ any_default ps i p d lt in
    differ k d within (ap (λ (q : Policy). q.name) here ∙ e ∙ sym (ap (λ (q : Policy). q.name) there))

pub to_later : (ps : List Policy) (i : ℕ) (p : Policy) → p ≡ get_or ps i p → i < length ps → AllPairs (λ p q. p.name ≢ q.name) ps → All (λ q. p.name ≢ q.name) (drop (i + 1) ps)
to_later ps i p at lt differ k d within e =
    let inside : i + 1 + k < length ps = omega (arith, rw (length-drop) at within) in
    let there : get_or (drop (i + 1) ps) k d ≡ get_or ps (i + 1 + k) d = get_or-drop (i + 1) ps k d in
    let here : p ≡ get_or ps i d = at ∙ any_default ps i p d lt in
    differ i (i + 1 + k) d (omega arith) inside (sym (ap (λ (q : Policy). q.name) here) ∙ e ∙ ap (λ (q : Policy). q.name) there)
