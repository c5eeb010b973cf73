use Rattle.std.proofs.Common.{◌∙◌, ◌++◌, ◌∷◌, [], length, refl, sym, arith}
use Rattle.crn_sequential.specs.Runs.{StandsBefore}
use Rattle.crn_sequential.proofs.Growing.{each-grown}
use Rattle.crn_checkpoint.proofs.Rows.{handed_on}
use Rattle.crn_checkpoint.proofs.Restoring.{few_costs}
use Rattle.crn_checkpoint.proofs.Turns.{turn_at, same_count}
use Rattle.crn_checkpoint.proofs.read.policy.policies_of.Goals as goal

pub returns-in_err-state-clause-reads : goal.returns-in_err-state-clause-reads
returns-in_err-state-clause-reads c = λ ps vs rest h count e.
    let i = c.loop-turn._turn in
    let inv = c.loop-turn.invariant.reads ps vs rest h count e in
    let turn = turn_at c.args.model.now c.args.next ps vs rest c.loop-turn.rest.now i h (omega (arith, c.loop-turn-test.true, count)) inv.0 in
    handed_on _ _ _ c.from_residual-in_err-state.ensures (c.in_err-state.ensures.reads turn.policy turn.state _ turn.restorable turn.rows_are)

pub loop-turn-preserved : goal.loop-turn-preserved
loop-turn-preserved c =
    let i = c.loop-turn._turn in
    let so_far = c.loop-turn.invariant in
    let added = c.in_ok-add.ensures in
    record {
      reads = λ ps vs rest h count e.
          let inv = so_far.reads ps vs rest h count e in
          let turn = turn_at c.args.model.now c.args.next ps vs rest c.loop-turn.rest.now i h (omega (arith, c.loop-turn-test.true, count)) inv.0 in
          let policy = c.in_ok-policy.ensures turn.policy _ turn.levels turn.name turn.rows_are in
          let state = c.in_ok-state.ensures.reads turn.policy turn.state _ turn.restorable turn.rows_are in (
            c.after_policy-rest.ensures turn.policy turn.state _ turn.restorable.can.ranges.due_length (few_costs c.args.model.now c.args.next turn.state turn.restorable) turn.rows_are,
            added.policies ∙ (λ j. inv.1 j ++ policy j ∷ []) ∙ sym turn.policies_taken,
            added.states ∙ (λ j. inv.2 j ++ state j ∷ []) ∙ sym turn.states_taken,
          );
      count = same_count _ _ _ _ _ _ added.policies added.states so_far.count;
      stand = each-grown (λ _ v. StandsBefore c.args.model.now c.args.next v) c.loop-turn.found.states.items _ c.in_ok-state.state (length c.loop-turn.found.states.items) added.states refl so_far.stand c.in_ok-state.ensures.stands;
    }
