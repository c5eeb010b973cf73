use Rattle.std.proofs.Common.{rules, ◌≡◌, ◌∙◌, ℕ, ap, sym, subst}
use Rattle.crn_stock.specs.Stock.{Draw, terms_in}
use Rattle.crn_stock.specs.Inner.Steps.{HaveLeads, drawn_from, drawn_without_returns, after_draws}
use Rattle.crn_stock.proofs.Blocks.{none_returned, same_without_returns}
use Rattle.crn_stock.proofs.state.State.run_whole_block.Goals as goal

pub advance-requires-clause-none : goal.advance-requires-clause-none
advance-requires-clause-none c = λ e. none_returned c.args.model.now c.args.block.now (sym c.requires.has_returns ∙ e)

pub returns-else-has_returns-clause-after : goal.returns-else-has_returns-clause-after
returns-else-has_returns-clause-after c =
    let same : drawn_without_returns c.args.model.now c.args.block.now ≡ drawn_from c.args.model.now c.args.block.now = same_without_returns c.args.model.now c.args.block.now (search rules) in
    c.advance-else-has_returns.ensures.after ∙ ap (λ (f : ℕ → Draw). after_draws (terms_in c.args.terms.now) f 4 c.args.self.now) same

pub returns-else-has_returns-clause-leads : goal.returns-else-has_returns-clause-leads
returns-else-has_returns-clause-leads c =
    subst (λ (f : ℕ → Draw). HaveLeads f 4) (same_without_returns c.args.model.now c.args.block.now (search rules)) c.advance-else-has_returns.ensures.leads
