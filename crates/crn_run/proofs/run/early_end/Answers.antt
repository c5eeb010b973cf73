use Rattle.std.proofs.Common.{◌≡◌, Some, length, refl, slice_get, arith}
use Rattle.std.proofs.lemmas.Option.{slice_get_read, slice_get_within}
use Rattle.crn_run.proofs.Ending.{none_any, none_further}
use Rattle.crn_run.proofs.run.early_end.Goals as goal

pub loop-i-preserved : goal.loop-i-preserved
loop-i-preserved c =
    let is : slice_get c.args.ends.now c.loop-i.i ≡ Some c.index-ends-i.result = slice_get_read c.args.ends.now (length c.args.ends.now) c.loop-i.i c.index-ends-i.result refl c.loop-i-test.true c.index-ends-i.is in
    none_further c.args.ends.now c.loop-i.i c.index-ends-i.result is c.in_default.ensures.whole c.loop-i.invariant

pub returns-in-Some-clause-early : goal.returns-in-Some-clause-early
returns-in-Some-clause-early c = record {
  place = c.loop-i.i;
  end = c.index-ends-i.result;
  is_end = slice_get_read c.args.ends.now (length c.args.ends.now) c.loop-i.i c.index-ends-i.result refl c.loop-i-test.true c.index-ends-i.is;
  early = c.in-Some.ensures.early;
}

pub returns-clause-none : goal.returns-clause-none
returns-clause-none c = none_any c.args.ends.now (λ k e is. c.loop-i.invariant k e (omega (arith, slice_get_within c.args.ends.now k e is, c.loop-i-test.false)) is)
