-- The report of a scenario: rows of fields, as CSV.
use Rattle.std.specs.Prelude.{◌≡◌, ℕ, List, [], ◌∷◌, ◌++◌, Option, Some, None, codes, decimal, map, ◌*◌, pos, length, slice_get, slice_index_or, sum}
use Rattle.std.specs.Fmt.{signed_decimal}
use Rattle.crn_pair.specs.declared.fraction.Fraction.{Fraction}
use Rattle.crn_stock.specs.declared.policy.Policy.{Policy}
use Rattle.crn_stock.specs.Models.{ScenarioParts, ModelParts}
use Rattle.crn_sequential.specs.Runs.{costs_of}
use Rattle.crn_rows.specs.Rows.{row_text}
use Rattle.crn_report.specs.declared.report_text.Figures.{Figures}
use Rattle.crn_pair.specs.Pairs.{signed, differences, over_pairs, IsQuotient, IsQuotientIfAny, variance_parts, covariance_parts}
use Rattle.crn_pair.specs.Pairs as pairs

-- ---- The figures of a report's rows.

-- the figures of a policy with the costs a by replication, where the first policy has the costs b
pub record IsFigures (m : ModelParts) (a b : List ℕ) (f : Figures) : Type 0 where
  pub total_is : f.total ≡ sum a
  pub per_period_is : IsQuotient (pos (sum a)) (m.periods * m.replications) f.per_period
  pub diff_total_is : f.diff_total ≡ pairs.signed_sum (differences a b)
  pub diff_mean_is : IsQuotient (pairs.signed_sum (differences a b)) m.replications f.diff_mean
  pub diff_var_is : IsQuotientIfAny (over_pairs (differences a b) (differences a b)) (variance_parts m.replications) f.diff_var
  pub cov_is : IsQuotientIfAny (over_pairs (signed a) (signed b)) (covariance_parts m.replications) f.cov

-- those of each policy, where a list has the costs of each
pub record AreFigures (m : ModelParts) (costs : List (List ℕ)) (figures : List Figures) : Type 0 where
  pub count : length figures ≡ length costs
  pub each : (i : ℕ) (f : Figures) → slice_get figures i ≡ Some f → (a : List ℕ) → slice_get costs i ≡ Some a → IsFigures m a (slice_index_or costs 0 []) f

-- num/den
abbrev pub fraction_text : Fraction → List ℕ
fraction_text f = signed_decimal f.num ++ codes "/" ++ decimal f.den

-- the same, or a dash where there is none
abbrev pub estimate_text : Option Fraction → List ℕ
estimate_text None = codes "-"
estimate_text (Some f) = fraction_text f

-- the names of the fields
abbrev pub header : List (List ℕ)
header =
    codes "policy" ∷ codes "s" ∷ codes "S" ∷ codes "total" ∷ codes "per_period"
    ∷ codes "diff_total" ∷ codes "diff_mean" ∷ codes "diff_var" ∷ codes "cov" ∷ []

-- a policy's fields
abbrev pub fields : Policy → Figures → List (List ℕ)
fields p f =
    p.name ∷ signed_decimal p.low ∷ signed_decimal p.high ∷ decimal f.total ∷ fraction_text f.per_period
    ∷ signed_decimal f.diff_total ∷ fraction_text f.diff_mean ∷ estimate_text f.diff_var ∷ estimate_text f.cov ∷ []

-- a row for each policy
abbrev pub policy_rows_text : List Policy → List Figures → List ℕ
policy_rows_text [] fs = []
policy_rows_text (p ∷ ps) [] = []
policy_rows_text (p ∷ ps) (f ∷ fs) = row_text (fields p f) ++ policy_rows_text ps fs

-- the text is the report of a scenario, where a list has the costs of each policy
pub record IsReportText (s : ScenarioParts) (costs : List (List ℕ)) (text : List ℕ) : Type 0 where
  pub figures : List Figures
  pub are : AreFigures s.model costs figures
  pub text_is : text ≡ row_text header ++ policy_rows_text s.policies figures

-- the report of a scenario: that of the costs that its policies have after all its blocks
abbrev pub IsReportOf : ScenarioParts → List ℕ → Type 0
IsReportOf s text = IsReportText s (map (costs_of s) s.policies) text
