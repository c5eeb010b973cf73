use Rattle.std.proofs.Common.{◌≡◌, ◌∙◌, ◌∷◌, ◌++◌, ℕ, List, [], ap, codes, length, sym, take}
use Rattle.crn_stock.specs.Parts.{Parts}
use Rattle.crn_stock.specs.Models.{ScenarioParts}
use Rattle.crn_checkpoint.specs.CheckpointText.{drawn_rows, returned_rows, all_policy_rows, end_row, checkpoint_rows}
use Rattle.crn_checkpoint.specs.Inner.Cells.{cell, AreRowsOf}
use Rattle.crn_checkpoint.proofs.Apart.{Apart, taken_apart}
use Rattle.crn_checkpoint.proofs.Rows.{demands_few, leads_few, demand_rows_count, lead_rows_count, returned_rows_count}
use Rattle.crn_checkpoint.proofs.read.layout.Layout.of.Goals as goal

apart : (c : goal.After-policies-1) (s : ScenarioParts) (next : ℕ) (states : List Parts) → AreRowsOf c.args.version s next states c.args.rows.now
    → Apart (drawn_rows (codes "demand") s.model.demand) (drawn_rows (codes "lead") s.model.lead) (returned_rows s.model.returns) (all_policy_rows s.policies states ++ end_row ∷ [])
    c.split.result.0.now c.split-2.result.0.now c.split-3.result.0.now c.split-3.result.1.now
unfolding checkpoint_rows
apart c s next states h =
    let in_range = h.ranges.scenario in
    let demands = c.natural_in.ensures (length s.model.demand.values) (demands_few s in_range) (ap (λ rows. cell rows 3 2) h.rows_are) ∙ sym (demand_rows_count s in_range) in
    let leads = c.natural_in-2.ensures (length s.model.lead.values) (leads_few s in_range) (ap (λ rows. cell rows 3 3) h.rows_are) ∙ sym (lead_rows_count s in_range) in
    let returned = c.returned_count.ensures.count s next states h ∙ sym (returned_rows_count s in_range) in
    taken_apart _ _ _ _ _ _ _ _ _ _ _ _ _ _ (c.lists.ensures s next states h) demands leads returned c.split.ensures.first c.split.ensures.rest c.split-2.ensures.first c.split-2.ensures.rest c.split-3.ensures.first c.split-3.ensures.rest

pub invariant_of-result-clause-is_demand : goal.invariant_of-result-clause-is_demand
invariant_of-result-clause-is_demand c = λ s next states h. (apart c s next states h).first

pub invariant_of-result-clause-is_lead : goal.invariant_of-result-clause-is_lead
invariant_of-result-clause-is_lead c = λ s next states h. (apart c s next states h).second

pub invariant_of-result-clause-is_returned : goal.invariant_of-result-clause-is_returned
invariant_of-result-clause-is_returned c = λ s next states h. (apart c s next states h).third

pub invariant_of-result-clause-none_returned : goal.invariant_of-result-clause-none_returned
invariant_of-result-clause-none_returned c = λ first. c.split-3.ensures.first ∙ ap (λ (n : ℕ). take n c.split-2.result.1.now) (c.returned_count.ensures.none first)

pub invariant_of-result-clause-is_policies : goal.invariant_of-result-clause-is_policies
invariant_of-result-clause-is_policies c = λ s next states h. (apart c s next states h).rest
