use Rattle.crn_scenario.proofs.faults.costs_keep.Goals as goal

pub returns : goal.returns
returns c = rw c.table_at.ensures at c.keeps_in.ensures
