use Rattle.std.proofs.Common.{rules, ◌≡◌, ◌++◌, ◌∷◌, [], map, arith}
use Rattle.std.proofs.lemmas.Grind.{common_steps}
use Rattle.crn_sequential.proofs.Growing.{each-grown}
use Rattle.crn_report.proofs.FiguresOf.{FiguresAt, figures_at, stands_at}
use Rattle.crn_report.proofs.report_text.all_figures.Goals as goal

pub loop-i-preserved : goal.loop-i-preserved
loop-i-preserved c =
    let m = c.args.scenario.now.model in
    let vs = c.args.states.now in
    let i = c.loop-i.i in
    let f = c.figures_of.result in
    let grown : c.push.new.self.items ≡ c.loop-i.figures.items ++ f ∷ [] = search rules in
    let count = c.loop-i.invariant.count in
    record {
      count = grind (arith, common_steps, grown, count);
      each = each-grown (FiguresAt m (map (λ w. w.costs) vs)) c.loop-i.figures.items c.push.new.self.items f i grown count c.loop-i.invariant.each
          (figures_at m c.model.result.now vs i c.index-states-i.result c.index-states-0.result f c.model.ensures c.loop-i-test.true c.index-states-i.is c.index-states-0.is c.figures_of.ensures);
    }

pub returns : goal.returns
returns c = record { count = grind (arith, common_steps, c.loop-i.invariant.count); each = c.loop-i.invariant.each }

pub figures_of-requires-clause-state : goal.figures_of-requires-clause-state
figures_of-requires-clause-state c =
    stands_at c.args.scenario.now.model c.model.result.now c.args.states.now c.loop-i.i c.index-states-i.result c.model.ensures c.loop-i-test.true c.index-states-i.is c.requires.stand

pub figures_of-requires-clause-base : goal.figures_of-requires-clause-base
figures_of-requires-clause-base c =
    stands_at c.args.scenario.now.model c.model.result.now c.args.states.now 0 c.index-states-0.result c.model.ensures (omega (arith, c.loop-i-test.true)) c.index-states-0.is c.requires.stand
