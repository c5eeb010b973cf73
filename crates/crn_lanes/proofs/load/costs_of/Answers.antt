use Rattle.std.proofs.Common.{◌≡◌, ◌+◌, ◌<◌, ◌++◌, ◌∷◌, [], ℕ, suc, List, length, length-append, take, sym, ap, ◌∙◌, arith, take_all}
use Rattle.std.proofs.Math.Seq.{take-suc}
use Rattle.crn_lanes.specs.Inner.Lanes.{column}
use Rattle.crn_lanes.specs.Inner.Groups.{seat}
use Rattle.crn_lanes.proofs.Rows.{column_more}
use Rattle.crn_lanes.proofs.load.costs_of.Goals as goal

pub loop-r-init : goal.loop-r-init
loop-r-init c = record {
  count = ap length c.in_ok-rows.ensures.items;
  room = omega (arith, c.in_ok-rows.ensures.capacity);
  each = λ k lt v e. ap (λ (r : List (List ℕ)). column r k) c.in_ok-rows.ensures.items;
}

pub push_reserved-requires : goal.push_reserved-requires
push_reserved-requires c = omega (arith, c.loop-r.invariant.count, c.loop-r.invariant.room, c.loop-r-test.true, c.requires.few)

pub loop-r-preserved : goal.loop-r-preserved
loop-r-preserved c =
    let rows = c.loop-r.rows.items in
    let row = c.cost_row.result in
    let r = c.loop-r.r in
    record {
      count = omega (arith, ap length c.push_reserved.ensures.items, length-append rows (row ∷ []), c.loop-r.invariant.count);
      room = omega (arith, c.loop-r.invariant.room, c.push_reserved.ensures.capacity);
      each = λ k lt v e.
          let one : r + 1 ≡ suc r = omega arith in
          let long : r < length v.costs = omega (arith, c.loop-r-test.true, c.requires.done (seat (length c.args.states.now) k) v e) in
          ap (λ (l : List (List ℕ)). column l k) c.push_reserved.ensures.items ∙ column_more rows row k
          ∙ (λ i. c.loop-r.invariant.each k lt v e i ++ c.cost_row.ensures.each k lt v e i ∷ [])
          ∙ sym (ap (λ (n : ℕ). take n v.costs) one ∙ take-suc v.costs r 0 long);
    }

pub returns-clause-rows : goal.returns-clause-rows
returns-clause-rows c k lt v e =
    c.loop-r.invariant.each k lt v e ∙ take_all c.loop-r.r v.costs (omega (arith, c.requires.done (seat (length c.args.states.now) k) v e, c.loop-r-test.false))
