use Rattle.std.proofs.lemmas.Result.{IfOk-weaker}
use Rattle.crn_rows.proofs.Reread.{reread}
use Rattle.crn_rows.proofs.reading.read_rows.Goals as goal

pub returns : goal.returns
returns c = λ rows h e. IfOk-weaker c.records.result _ _ (λ v. reread _ _ rows h e) c.records.ensures
