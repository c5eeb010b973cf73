use Rattle.std.proofs.Common.{◌≡◌, ◌∙◌, ◌-◌, ℕ, ap, sym}
use Rattle.crn_stock.specs.Stock.{terms_in}
use Rattle.crn_stock.specs.Parts.{Parts}
use Rattle.crn_stock.specs.Inner.Steps.{drawn_from, after_draws}
use Rattle.crn_stock.proofs.Blocks.{none_returned}
use Rattle.crn_stock.proofs.state.State.run_short_block.Goals as goal

pub advance-requires-clause-none : goal.advance-requires-clause-none
advance-requires-clause-none c = λ e. none_returned c.args.model.now c.args.block.now (sym c.requires.has_returns ∙ e)

pub returns-clause-after : goal.returns-clause-after
returns-clause-after c =
    let old = c.args.self.now in
    let left : c.self.inside.periods - c.self.inside.period ≡ old.periods - old.period = ap (λ (w : Parts). w.periods - w.period) c.self.view_is in
    c.advance.ensures.after ∙ ap (λ (n : ℕ). after_draws (terms_in c.args.terms.now) (drawn_from c.args.model.now c.args.block.now) n old) left
