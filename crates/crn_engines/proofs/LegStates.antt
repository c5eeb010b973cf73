-- The states of a leg are those of whoever reads its text.
use Rattle.std.proofs.Common.{◌≡◌, ◌∙◌, ℕ, List, ap, subst, sym, slice_get, inl}
use Rattle.crn_stock.specs.declared.policy.Policy.{Policy}
use Rattle.crn_stock.specs.Parts.{Parts}
use Rattle.crn_stock.specs.Models.{ModelParts, ScenarioParts, IsSameButRing}
use Rattle.crn_stock.specs.Stock.{At}
use Rattle.crn_sequential.specs.Runs.{EachAt}
use Rattle.crn_checkpoint.specs.Reading.{IsAnyTextOf, IsLegOf}
use Rattle.crn_scenario.specs.Reading.{Reads, scenario_of}

-- a text is that of one scenario
pub reads_one : (input : List ℕ) (s s' : ScenarioParts) → Reads input s → Reads input s' → s ≡ s'
reads_one input s s' a b =
    let trees = sym a.document.tree ∙ b.document.tree in
    let same : a.tree ≡ b.tree = cc trees in
    a.says ∙ ap scenario_of same ∙ sym b.says

-- the ring's size is not asked for
pub each_at_same : (s s' : ScenarioParts) (n : ℕ) (states : List Parts) → IsSameButRing s' s → EachAt s' n states → EachAt s n states
each_at_same s s' n states same at = λ i p v e f.
    let place = ap (λ (l : List Policy). slice_get l i) same.policies ∙ e in
    let model = subst (λ (m : ModelParts). At m p s'.key n v) same.model (at i p v place f) in
    subst (λ (key : List ℕ). At s.model p key n v) same.key model

-- where a text is that of one checkpoint only, and of a leg, the checkpoint's states are the leg's
pub each_at_read : (s : ScenarioParts) (next : ℕ) (states : List Parts) (bytes : List ℕ)
    → ((t : ScenarioParts) (m : ℕ) (vs : List Parts) → IsAnyTextOf t m vs bytes → IsSameButRing t s × (m ≡ next) × (vs ≡ states))
    → (s' : ScenarioParts) (n : ℕ) → IsLegOf s' n bytes → EachAt s next states
each_at_read s next states bytes only s' n leg =
    let h = only s' n leg.states (inl leg.is_text) in
    let at : EachAt s n leg.states = each_at_same s s' n leg.states h.0 leg.at in
    subst (λ (k : ℕ). EachAt s k states) h.1 (subst (λ (vs : List Parts). EachAt s n vs) h.2 at)
