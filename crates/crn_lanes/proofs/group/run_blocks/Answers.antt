use Rattle.std.proofs.Common.{rules, ◌≡◌, ◌∙◌, ℕ, ◌+◌, List, subst, sym, ap, arith}
use Rattle.crn_stock.specs.Stock.{OnwardAt, next_block}
use Rattle.crn_stock.proofs.Blocks.{onward_here, onward_at_then, taken}
use Rattle.crn_stock.proofs.Due.{length-rotated}
use Rattle.crn_lanes.specs.Inner.Lanes.{terms_at, due_at}
use Rattle.crn_lanes.specs.Inner.Groups.{lane}
use Rattle.crn_lanes.proofs.group.run_blocks.Goals as goal

pub loop-number-init : goal.loop-number-init
loop-number-init c = record {
  group = c.requires.group;
  stand = c.requires.stand;
  onward = λ k policy lt same.
      let m = c.args.model.now in
      let g = c.args.group.now in
      let v = lane m g k in
      subst (λ (n : ℕ). OnwardAt m policy c.args.key v n v) (c.requires.stand k lt)
      (onward_here m policy c.args.key v (length-rotated (due_at g.lanes k) _ (c.requires.group.lanes k lt).length_is (omega arith)));
}

pub loop-number-preserved : goal.loop-number-preserved
loop-number-preserved c =
    let m = c.args.model.now in
    let key = c.args.key in
    let n = c.loop-number.number in
    let block = c.block.result in
    let number : block.number ≡ n = search (rules, c.block.ensures.number) in
    let before = c.loop-number.group in
    let after = c.take_block.new.group in
    record {
      group = c.take_block.ensures.group;
      stand = λ k lt. (c.take_block.ensures.taken k lt).next ∙ ap (λ (i : ℕ). i + 1) number;
      onward = λ k policy lt same.
          let q = lane m before k in
          let v = lane m after k in
          let there : block.number ≡ next_block q = number ∙ sym (c.loop-number.invariant.stand k lt) in
          let one : OnwardAt m policy block.key q (block.number + 1) v = taken m policy (terms_at c.args.levels.now m.costs k) block q v (c.take_block.ensures.taken k lt) same there in
          let here : OnwardAt m policy key q (n + 1) v =
          subst (λ (w : List ℕ). OnwardAt m policy w q (n + 1) v) c.block.ensures.key (subst (λ (i : ℕ). OnwardAt m policy block.key q (i + 1) v) number one) in
          onward_at_then m policy key (n + 1) (lane m c.args.group.now k) q v
          (subst (λ (i : ℕ). OnwardAt m policy key (lane m c.args.group.now k) i q) (sym (c.loop-number.invariant.stand k lt)) (c.loop-number.invariant.onward k policy lt same)) here;
    }

pub returns-clause-onward : goal.returns-clause-onward
returns-clause-onward c k policy lt same =
    let m = c.args.model.now in
    let there : c.loop-number.number ≡ c.args.upto = omega (arith, c.loop-number-test.false, c.loop-number.auto.number-end, c.requires.from) in
    subst (λ (n : ℕ). OnwardAt m policy c.args.key (lane m c.args.group.now k) n (lane m c.loop-number.group k)) there (c.loop-number.invariant.onward k policy lt same)
