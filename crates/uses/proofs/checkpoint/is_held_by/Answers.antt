use Rattle.std.proofs.Common.{rules}
use Rattle.crn_stock.specs.Models.{total}
use Rattle.crn_run.specs.Gates.{AllPassed}
use Rattle.uses.proofs.checkpoint.is_held_by.Goals.{in-Ok, in-Err-Gate, in-Err}
use Rattle.uses.proofs.checkpoint.is_held_by.Goals as goal

pub returns-clause-passed : goal.returns-clause-passed
returns-clause-passed g c = elim c.match-run_all.branch [
  | in-Ok w ↦
      let passed : AllPassed g.G.Gate.refused g.G.Gate.asked c.args.start.now.next c.total.result c.args.gates.now = search rules in
      let all : AllPassed g.G.Gate.refused g.G.Gate.asked c.args.start.now.next (total c.args.scenario.now.model) c.args.gates.now = search (rules, passed) in
      search (rules, all, w.result-is)
  | in-Err-Gate w ↦ search rules
  | in-Err w ↦ search rules
]
