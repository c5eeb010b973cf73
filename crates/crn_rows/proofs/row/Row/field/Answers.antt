use Rattle.crn_rows.proofs.Fields.{found_at, missing_at}
use Rattle.crn_rows.proofs.row.Row.field.Goals as goal

pub returns-in-Some : goal.returns-in-Some
returns-in-Some c = found_at _ _ _ _ _ c.in-Some.is c.get.ensures.value c.self.view_is

pub returns-in-None : goal.returns-in-None
returns-in-None c = missing_at _ _ _ _ c.in-None.is c.get.ensures.value c.self.view_is
