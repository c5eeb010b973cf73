-- The ranges of a state's parts follow from what a state keeps.
use Rattle.std.proofs.Common.{◌%◌, ◌∙◌, arith}
use Rattle.std.proofs.lemmas.Int.{ints}
use Rattle.crn_stock.specs.declared.state.State.TheInside.{Inside}
use Rattle.crn_stock.specs.contracts.state.State.{the_view, the_invariant}
use Rattle.crn_stock.specs.Parts.{AreInRange}
use Rattle.crn_stock.proofs.Steps.{sum-rotated}
use Rattle.crn_stock.proofs.Due.{length-rotated}

pub in_range : (f : Inside) → the_invariant f → AreInRange (the_view f)
in_range f i =
    let r = i.in_range in
    let all = sum-rotated f.due (f.period % 32) in
    record {
      period_high = r.period_high;
      stock_low = r.stock_low;
      stock_high = omega (arith, ints, r.stock_high, r.position_high);
      due_length = length-rotated f.due (f.period % 32) i.due_length (omega arith);
      position_low = omega (arith, ints, all, i.position_is, r.position_low);
      position_high = omega (arith, ints, all, i.position_is, r.position_high);
      running_high = r.running_high;
      costs_high = i.costs_high;
      fresh_stock = i.fresh_stock;
      fresh_due = λ e. all ∙ i.fresh_due e;
    }
