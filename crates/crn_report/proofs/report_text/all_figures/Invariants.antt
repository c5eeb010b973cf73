use Rattle.std.proofs.Common.{◌≡◌, length, map}
use Rattle.crn_sequential.proofs.Growing.{HoldsOfEach}
use Rattle.crn_report.proofs.FiguresOf.{FiguresAt}
use Rattle.crn_report.proofs.report_text.all_figures.Given as goal

abbrev pub invariant-loop-i : goal.invariant-loop-i
invariant-loop-i l = record {
  count : length l.figures.items ≡ l.i;
  each : HoldsOfEach (FiguresAt l.scenario.model (map (λ v. v.costs) l.states)) l.figures.items;
}
