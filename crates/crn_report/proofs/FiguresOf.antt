-- The figures of one policy among those of all.
use Rattle.std.proofs.Common.{◌≡◌, ℕ, ◌<◌, List, [], ◌∷◌, length, map, Some, Option, slice_get, slice_index_or, get_or, option_map, subst, sym, ap, ◌∙◌, refl, arith}
use Rattle.std.proofs.lemmas.Option.{slice_get_read, slice_get-map}
use Rattle.crn_stock.specs.Parts.{Parts}
use Rattle.crn_stock.specs.Models.{ModelParts, total}
use Rattle.crn_sequential.specs.Runs.{StandsBefore}
use Rattle.crn_report.specs.declared.report_text.Figures.{Figures}
use Rattle.crn_report.specs.Report.{IsFigures}

abbrev pub FiguresAt : ModelParts → List (List ℕ) → ℕ → Figures → Type 0
FiguresAt m costs i f = (a : List ℕ) → slice_get costs i ≡ Some a → IsFigures m a (slice_index_or costs 0 []) f

same_of : {A : Type 0} (o : Option A) (a b : A) → o ≡ Some a → o ≡ Some b → a ≡ b
same_of o a b e f = cc

costs_at : (vs : List Parts) (i : ℕ) (v : Parts) (a : List ℕ) → i < length vs → v ≡ get_or vs i v → slice_get (map (λ w. w.costs) vs) i ≡ Some a → a ≡ v.costs
costs_at vs i v a inside is e =
    let there : slice_get vs i ≡ Some v = slice_get_read vs (length vs) i v refl inside is in
    same_of (slice_get (map (λ w. w.costs) vs) i) a v.costs e (slice_get-map (λ w. w.costs) vs i ∙ ap (option_map (λ w. w.costs)) there)

first_costs : (vs : List Parts) (v : Parts) → 0 < length vs → v ≡ get_or vs 0 v → slice_index_or (map (λ w. w.costs) vs) 0 [] ≡ v.costs
first_costs [] v some is = absurd (omega arith)
first_costs (w ∷ ws) v some is = ap (λ (u : Parts). u.costs) (sym is)

pub figures_at : (m m' : ModelParts) (vs : List Parts) (i : ℕ) (v base : Parts) (f : Figures) → m' ≡ m → i < length vs → v ≡ get_or vs i v → base ≡ get_or vs 0 base
    → IsFigures m' v.costs base.costs f → FiguresAt m (map (λ w. w.costs) vs) i f
figures_at m m' vs i v base f same inside is base_is h a e =
    let here : IsFigures m v.costs base.costs f = subst (λ (n : ModelParts). IsFigures n v.costs base.costs f) same h in
    let costs : IsFigures m a base.costs f = subst (λ (c : List ℕ). IsFigures m c base.costs f) (sym (costs_at vs i v a inside is e)) here in
    subst (λ (c : List ℕ). IsFigures m a c f) (sym (first_costs vs base (omega (arith, inside)) base_is)) costs

pub stands_at : (m m' : ModelParts) (vs : List Parts) (i : ℕ) (v : Parts) → m' ≡ m → i < length vs → v ≡ get_or vs i v
    → ((k : ℕ) (w : Parts) → slice_get vs k ≡ Some w → StandsBefore m (total m) w) → StandsBefore m' (total m') v
stands_at m m' vs i v same inside is stand = subst (λ (n : ModelParts). StandsBefore n (total n) v) (sym same) (stand i v (slice_get_read vs (length vs) i v refl inside is))
