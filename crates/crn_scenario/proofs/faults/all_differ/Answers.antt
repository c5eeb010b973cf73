use Rattle.std.proofs.Common.{sym}
use Rattle.crn_scenario.proofs.LaterNames.{still_holds, still_differ, stands_twice}
use Rattle.crn_scenario.proofs.faults.all_differ.Goals as goal

pub returns-then-not-is_new : goal.returns-then-not-is_new
returns-then-not-is_new c =
    sym (stands_twice c.args.names.now c.loop-i.i _ c.loop-i.later c.loop-i-test.true c.loop-i.invariant.held (rw c.if-not-is_new.true at c.in_ok-is_new.ensures.added))

pub loop-i-preserved : goal.loop-i-preserved
loop-i-preserved c = record {
  held = still_holds c.args.names.now c.loop-i.i _ c.loop-i.later c.insert.new.self c.loop-i-test.true c.loop-i.invariant.held c.in_ok-is_new.ensures.updates;
  differ = still_differ c.args.names.now c.loop-i.i _ c.loop-i.later c.loop-i-test.true c.loop-i.invariant.held (rw c.if-not-is_new.false at c.in_ok-is_new.ensures.added) c.loop-i.invariant.differ;
}
