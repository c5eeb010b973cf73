use Rattle.std.proofs.Common.{◌≡◌, ◌∙◌, ℕ, List, IfOk, ap, map, rules, subst, sym}
use Rattle.crn_stock.specs.Models.{total}
use Rattle.crn_sequential.specs.Runs.{EachAt, costs_of}
use Rattle.crn_sequential.proofs.Costs.{costs_at_end}
use Rattle.crn_report.specs.Report.{IsReportText}
use Rattle.crn_engines.proofs.lanes.report_of.Goals as goal

pub returns : goal.returns
returns c =
    let s = c.args.scenario.now in
    let states = c.in_ok-end.end.states.items in
    let begun = subst (λ (k : ℕ). EachAt s k c.in_ok-start.start.states.items) (sym c.in_ok-start.ensures.next) c.in_ok-start.ensures.at in
    let upto : c.total-total.result ≡ total s.model = c.total-total.ensures.value ∙ ap total c.model.ensures in
    let ended : EachAt s (total s.model) states = subst (λ (n : ℕ). EachAt s n states) upto (c.in_ok-end.ensures.at begun) in
    let costs : map (λ v. v.costs) states ≡ map (costs_of s) s.policies = costs_at_end s states c.in_ok-end.ensures.of.count ended in
    subst (λ (l : List (List ℕ)). IfOk c.report.result (λ text. IsReportText s l text.items)) costs c.report.ensures

pub report-requires : goal.report-requires
report-requires c = search rules
