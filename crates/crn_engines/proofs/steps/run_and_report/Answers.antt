use Rattle.std.proofs.Common.{◌≡◌, ◌∙◌, ℕ, List, ap, map, subst}
use Rattle.crn_stock.specs.Models.{total}
use Rattle.crn_sequential.specs.Runs.{EachAt, EachOnward, costs_of}
use Rattle.crn_sequential.proofs.Costs.{costs_at_end}
use Rattle.crn_report.specs.Report.{IsReportText}
use Rattle.crn_engines.proofs.steps.run_and_report.Goals as goal

pub returns-clause-onward : goal.returns-clause-onward
returns-clause-onward g c =
    let s = c.args.scenario.now in
    let states = c.in_ok-end.end.states.items in
    let upto : c.total-total.result ≡ total s.model = c.total-total.ensures.value ∙ ap total c.model.ensures in
    record {
      ends = states;
      count = c.in_ok-end.ensures.of.count;
      onward = subst (λ (n : ℕ). EachOnward s c.args.start.now.states.items n states) upto c.in_ok-end.ensures.onward;
      report = c.in_ok-report.ensures;
    }

pub returns-clause-at : goal.returns-clause-at
returns-clause-at g c = λ begun.
    let s = c.args.scenario.now in
    let states = c.in_ok-end.end.states.items in
    let upto : c.total-total.result ≡ total s.model = c.total-total.ensures.value ∙ ap total c.model.ensures in
    let ended : EachAt s (total s.model) states = subst (λ (n : ℕ). EachAt s n states) upto (c.in_ok-end.ensures.at begun) in
    let costs : map (λ v. v.costs) states ≡ map (costs_of s) s.policies = costs_at_end s states c.in_ok-end.ensures.of.count ended in
    subst (λ (l : List (List ℕ)). IsReportText s l c.in_ok-report.field-0.items) costs c.in_ok-report.ensures
