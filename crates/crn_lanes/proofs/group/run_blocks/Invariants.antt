use Rattle.std.proofs.Common.{◌≡◌, ℕ, ◌<◌}
use Rattle.crn_stock.specs.Stock.{terms_of, OnwardAt, next_block}
use Rattle.crn_stock.specs.declared.policy.Policy.{Policy}
use Rattle.crn_lanes.specs.Inner.Lanes.{terms_at}
use Rattle.crn_lanes.specs.Inner.Groups.{IsGroup, lane}
use Rattle.crn_lanes.proofs.group.run_blocks.Given as goal

abbrev pub invariant-loop-number : goal.invariant-loop-number
invariant-loop-number l = record {
  group : IsGroup l.model l.group;
  stand : (k : ℕ) → k < 16 → next_block (lane l.model l.group k) ≡ l.number;
  onward : (k : ℕ) (policy : Policy) → k < 16 → terms_at l.levels l.model.costs k ≡ terms_of policy l.model.costs → OnwardAt l.model policy l.key (lane l.model l.fn.group k) l.number (lane l.model l.group k);
}
