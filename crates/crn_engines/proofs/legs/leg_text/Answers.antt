use Rattle.std.proofs.Common.{◌≤◌, ℕ, rules, subst, sym}
use Rattle.crn_stock.specs.Models.{total}
use Rattle.crn_sequential.specs.Runs.{EachAt}
use Rattle.crn_checkpoint.specs.Reading.{IsTextOf}
use Rattle.crn_engines.proofs.legs.leg_text.Goals as goal

pub returns-clause-leg : goal.returns-clause-leg
returns-clause-leg g c =
    let s = c.args.scenario.now in
    let text = c.in_ok-write_checkpoint.field-0.items in
    let enough : c.args.n ≤ total s.model = search rules in
    let next = c.in_ok-reached.ensures.next in
    let begun = subst (λ (k : ℕ). EachAt s k c.in_ok-start.start.states.items) (sym c.in_ok-start.ensures.next) c.in_ok-start.ensures.at in
    let within = subst (λ (k : ℕ). k ≤ total s.model) (sym next) enough in
    record {
      states = c.in_ok-reached.reached.states.items;
      at = c.in_ok-reached.ensures.at begun;
      is_text = subst (λ (k : ℕ). IsTextOf s k c.in_ok-reached.reached.states.items text) next (c.in_ok-write_checkpoint.ensures.in_range within);
    }
