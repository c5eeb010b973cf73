use Rattle.std.proofs.Common.{◌≡◌, ◌≤◌, ◌++◌, ◌∷◌, List, All, subst}
use Rattle.std.proofs.lemmas.Result.{IfOk-weaker}
use Rattle.crn_stock.specs.Models.{total}
use Rattle.crn_stock.specs.Parts.{Parts, AreInRange}
use Rattle.crn_checkpoint.specs.Reading.{IsTextIn}
use Rattle.crn_checkpoint.specs.CheckpointText.{head_row, key_row, costs_row, sizes_row, count_rows, list_rows, all_policy_rows, end_row, checkpoint_text, checkpoint_rows}
use Rattle.crn_checkpoint.proofs.WrittenRows.{whole_in_turn}
use Rattle.crn_checkpoint.proofs.write.write_in.Goals as goal

pub returns-clause-text : goal.returns-clause-text
unfolding checkpoint_text checkpoint_rows
returns-clause-text c =
    let v = c.args.version in
    let s = c.args.scenario.now in
    let m = s.model in
    let next = c.args.checkpoint.now.next in
    let states = c.args.checkpoint.now.states.items in
    let head = head_row v m next ∷ key_row s.key ∷ costs_row m.costs ∷ sizes_row s ∷ count_rows v m ++ list_rows m in
    let whole = whole_in_turn head (all_policy_rows s.policies states) end_row in
    rw (c.in_ok-sheet-3.ensures, c.in_ok-sheet-2.ensures.written, c.in_ok-sheet.ensures.written, c.new.ensures, c.policies.ensures.value, c.deref.ensures.value, whole) at c.into_text.ensures

pub returns-clause-in_range : goal.returns-clause-in_range
returns-clause-in_range c =
    let v = c.args.version in
    let s = c.args.scenario.now in
    let next = c.args.checkpoint.now.next in
    let states = c.args.checkpoint.now.states.items in
    IfOk-weaker c.into_text.result (λ text. text.items ≡ checkpoint_text v s next states) (λ text. next ≤ total s.model → IsTextIn v s next states text.items) (λ text is low. record {
      ranges = record {
        scenario = c.in_ok-sheet.ensures.range;
        next_high = low;
        states_of = c.requires.of;
        ranges = subst (λ (vs : List Parts). All AreInRange vs) c.deref.ensures.value c.in_ok-sheet-2.ensures.ranges;
      };
      tells = c.requires.tells;
      text_is = is;
    }) (returns-clause-text c)
