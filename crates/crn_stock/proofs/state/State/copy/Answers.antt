use Rattle.std.proofs.Common.{rules, ◌%◌, ap, sym, length, ◌∙◌, arith}
use Rattle.crn_stock.specs.Parts.{Parts}
use Rattle.crn_stock.proofs.Due.{length-rotated}
use Rattle.crn_stock.proofs.Blocks.{onward_same}
use Rattle.crn_stock.proofs.state.State.copy.Goals as goal

pub returns-clause-onward : goal.returns-clause-onward
returns-clause-onward c model policy key =
    let f = c.self.inside in
    let long = length-rotated f.due (f.period % 32) c.self.invariant.due_length (omega arith) in
    onward_same model policy key c.args.self.now _ (sym (ap (λ (v : Parts). length v.due) c.self.view_is) ∙ long) (search rules)
