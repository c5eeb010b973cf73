-- Why a flexible reader of bytes fails.
use Rattle.std.proofs.Common.{◌≡◌, ◌∙◌, ℕ, true, false, Option, List, refl, sym}
use Rattle.std.proofs.lemmas.Bool.{false≢true, true≢false}
use Rattle.csv.specs.Reading.{ExplainsRead, is_flexible, stops_reader}
use Rattle.csv.specs.declared.reader.Reader.{Reader}
use Rattle.csv.specs.declared.error.ErrorKind.{ErrorKind}
use Rattle.csv.specs.declared.error.ErrorKind.TheVariants as kind

-- neither the fields nor the lengths of rows are a reason
pub stops : {R : Type 0} (rem : R → Option (List ℕ)) (old new : Reader R) (k : ErrorKind) → is_flexible old ≡ true → ExplainsRead rem old new false k → stops_reader k ≡ true
stops rem old new (kind.UnequalLengths pos expected len) flexible why = absurd (true≢false (sym flexible ∙ why.0))
stops rem old new (kind.Utf8 pos err) flexible why = absurd (false≢true why.0)
stops rem old new (kind.Serialize text) flexible why = absurd why
stops rem old new (kind.Deserialize pos err) flexible why = absurd why
stops rem old new k flexible why = refl
