-- The costs of a scenario's policies have one report.
use Rattle.std.proofs.Common.{◌≡◌, ℕ, zero, suc, ◌*◌, ◌≤◌, ℤ, pos, List, [], ◌∷◌, ◌++◌, length, Option, Some, slice_get, slice_index_or, sum, refl, sym, ap, ◌∙◌, arith}
use Rattle.crn_pair.specs.Pairs.{variance_parts, covariance_parts, signed, differences, over_pairs, IsQuotient, IsQuotientIfAny}
use Rattle.crn_pair.specs.Pairs as pairs
use Rattle.crn_pair.specs.declared.fraction.Fraction.{Fraction}
use Rattle.crn_stock.specs.Models.{ModelParts, ScenarioParts}
use Rattle.crn_stock.specs.declared.policy.Policy.{Policy}
use Rattle.crn_rows.specs.Rows.{row_text}
use Rattle.crn_report.specs.Report.{fraction_text, estimate_text, fields, header, policy_rows_text, IsReportText, IsFigures}
use Rattle.crn_report.specs.declared.report_text.Figures.{Figures}

-- what `crn_pair::laws::one_fraction` says
pub record OneFraction : Type 0 where
  pub num : (num : ℤ) (den : ℕ) (f g : Fraction) → 1 ≤ den → IsQuotient num den f → IsQuotient num den g → f.num ≡ g.num
  pub den : (num : ℤ) (den : ℕ) (f g : Fraction) → 1 ≤ den → IsQuotient num den f → IsQuotient num den g → f.den ≡ g.den

one_quotient : OneFraction → (num : ℤ) (den : ℕ) (f g : Fraction) → 1 ≤ den → IsQuotient num den f → IsQuotient num den g → fraction_text f ≡ fraction_text g
one_quotient one num den f g some is_f is_g =
    rw (one.num num den f g some is_f is_g, one.den num den f g some is_f is_g)

one_estimate : OneFraction → (num : ℤ) (den : ℕ) (o p : Option Fraction) → IsQuotientIfAny num den o → IsQuotientIfAny num den p → estimate_text o ≡ estimate_text p
one_estimate one num zero o p is_o is_p = ap estimate_text (is_o ∙ sym is_p)
one_estimate one num (suc d) o p (f, at_f, is_f) (g, at_g, is_g) =
    ap estimate_text at_f ∙ one_quotient one num (suc d) f g (omega arith) is_f is_g ∙ sym (ap estimate_text at_g)

some_product : (m n : ℕ) → 1 ≤ m → 1 ≤ n → 1 ≤ m * n
some_product zero n hm hn = absurd (omega arith)
some_product (suc m) n hm hn = omega arith

one_row : OneFraction → (m : ModelParts) (a b : List ℕ) (p : Policy) (f g : Figures) → 1 ≤ m.periods → 1 ≤ m.replications
    → IsFigures m a b f → IsFigures m a b g → row_text (fields p f) ≡ row_text (fields p g)
one_row one m a b p f g some_periods some_replications of_f of_g =
    let total : f.total ≡ g.total = of_f.total_is ∙ sym of_g.total_is in
    let per_period : fraction_text f.per_period ≡ fraction_text g.per_period =
    one_quotient one (pos (sum a)) (m.periods * m.replications) f.per_period g.per_period (some_product m.periods m.replications some_periods some_replications) of_f.per_period_is of_g.per_period_is in
    let diff_total : f.diff_total ≡ g.diff_total = of_f.diff_total_is ∙ sym of_g.diff_total_is in
    let diff_mean : fraction_text f.diff_mean ≡ fraction_text g.diff_mean =
    one_quotient one (pairs.signed_sum (differences a b)) m.replications f.diff_mean g.diff_mean some_replications of_f.diff_mean_is of_g.diff_mean_is in
    let diff_var : estimate_text f.diff_var ≡ estimate_text g.diff_var = one_estimate one (over_pairs (differences a b) (differences a b)) (variance_parts m.replications) f.diff_var g.diff_var of_f.diff_var_is of_g.diff_var_is in
    let cov : estimate_text f.cov ≡ estimate_text g.cov = one_estimate one (over_pairs (signed a) (signed b)) (covariance_parts m.replications) f.cov g.cov of_f.cov_is of_g.cov_is in
    ap row_text (cc)

abbrev EachOf : ModelParts → List ℕ → List (List ℕ) → List Figures → Type 0
EachOf m b costs fs = (i : ℕ) (f : Figures) → slice_get fs i ≡ Some f → (a : List ℕ) → slice_get costs i ≡ Some a → IsFigures m a b f

one_text : OneFraction → (m : ModelParts) (b : List ℕ) (ps : List Policy) (costs : List (List ℕ)) (fs gs : List Figures) → 1 ≤ m.periods → 1 ≤ m.replications
    → length fs ≡ length costs → length gs ≡ length costs → EachOf m b costs fs → EachOf m b costs gs → policy_rows_text ps fs ≡ policy_rows_text ps gs
one_text one m b [] costs fs gs hp hr count_f count_g of_f of_g = refl
one_text one m b (p ∷ ps) costs [] [] hp hr count_f count_g of_f of_g = refl
one_text one m b (p ∷ ps) (a ∷ costs) (f ∷ fs) (g ∷ gs) hp hr count_f count_g of_f of_g =
    let here : row_text (fields p f) ≡ row_text (fields p g) = one_row one m a b p f g hp hr (of_f 0 f refl a refl) (of_g 0 g refl a refl) in
    let rest : policy_rows_text ps fs ≡ policy_rows_text ps gs =
    one_text one m b ps costs fs gs hp hr (omega arith) (omega arith) (λ i h e c d. of_f (suc i) h e c d) (λ i h e c d. of_g (suc i) h e c d) in
    cc
one_text one m b ps costs fs gs hp hr count_f count_g of_f of_g = absurd (omega arith)

pub one_report : OneFraction → (s : ScenarioParts) (costs : List (List ℕ)) (text other : List ℕ) → 1 ≤ s.model.periods → 1 ≤ s.model.replications
    → IsReportText s costs text → IsReportText s costs other → text ≡ other
one_report one s costs text other hp hr is other_is =
    let rows : policy_rows_text s.policies is.figures ≡ policy_rows_text s.policies other_is.figures =
    one_text one s.model (slice_index_or costs 0 []) s.policies costs is.figures other_is.figures hp hr is.are.count other_is.are.count is.are.each other_is.are.each in
    is.text_is ∙ ap (λ (rest : List ℕ). row_text header ++ rest) rows ∙ sym other_is.text_is
