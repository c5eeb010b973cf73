use Rattle.std.proofs.Common.{◌≡◌, ◌<◌, All, List, arith, length, subst, take, take_all}
use Rattle.std.proofs.lemmas.List.Elements.{All-more}
use Rattle.crn_stock.specs.Parts.{Parts, AreInRange}
use Rattle.crn_checkpoint.proofs.WrittenRows.{policy_written}
use Rattle.crn_checkpoint.proofs.write.policy.with_all_policy_rows.Goals as goal

pub loop-i-preserved : goal.loop-i-preserved
loop-i-preserved c =
    let states = c.args.states.now in
    let inside : c.loop-i.i < length states = omega (arith, c.requires.count, c.loop-i-test.true) in
    record {
      written = policy_written c.args.policies.now states c.loop-i.i c.index-policies-i.result c.index-states-i.result c.loop-i.sheet c.in_ok-sheet.sheet _
          c.loop-i-test.true inside c.index-policies-i.is c.index-states-i.is c.in_ok-sheet.ensures.written c.loop-i.invariant.written;
      ranges = All-more AreInRange states c.loop-i.i c.index-states-i.result inside c.loop-i.invariant.ranges (subst AreInRange c.index-states-i.is c.in_ok-sheet.ensures.range);
    }

pub returns-clause-ranges : goal.returns-clause-ranges
returns-clause-ranges c =
    let states = c.args.states.now in
    let all : take c.loop-i.i states ≡ states = take_all c.loop-i.i states (omega (arith, c.requires.count, c.loop-i-test.false)) in
    subst (λ (vs : List Parts). All AreInRange vs) all c.loop-i.invariant.ranges
