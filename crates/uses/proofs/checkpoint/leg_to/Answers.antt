use Rattle.std.proofs.Common.{◌≤◌, ℕ, subst, sym}
use Rattle.crn_stock.specs.Models.{total}
use Rattle.crn_sequential.specs.Runs.{EachAt}
use Rattle.crn_checkpoint.specs.Reading.{IsTextOf}
use Rattle.uses.proofs.checkpoint.leg_to.Goals as goal

pub returns-clause-leg : goal.returns-clause-leg
returns-clause-leg g c =
    let s = c.args.scenario.now in
    let states = c.in_ok-finished.finished.checkpoint.states.items in
    let text = c.in_ok-text.text.items in
    let next = c.in_ok-finished.ensures.next in
    let begun = subst (λ (k : ℕ). EachAt s k c.args.start.now.states.items) (sym c.requires.start.0) c.requires.at in
    let within = subst (λ (k : ℕ). k ≤ total s.model) (sym next) c.requires.within in
    record {
      states = states;
      at = c.in_ok-finished.ensures.at begun;
      is_text = subst (λ (k : ℕ). IsTextOf s k states text) next (c.in_ok-text.ensures.in_range within);
    }
