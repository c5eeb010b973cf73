use Rattle.std.proofs.Common.{◌≡◌, ◌∙◌, ◌<◌, [], ℕ, get_or, length, Some, slice_get, sym, subst, ap, arith}
use Rattle.std.proofs.lemmas.Grind.{common_steps}
use Rattle.std.proofs.lemmas.Option.{slice_get-get_or}
use Rattle.crn_stock.specs.Parts.{Parts}
use Rattle.crn_stock.specs.Stock.{OnwardAt, terms_of, next_block}
use Rattle.crn_sequential.specs.Runs.{StandsBefore}
use Rattle.crn_sequential.proofs.Growing.{each-grown}
use Rattle.crn_lanes.specs.Inner.Groups.{seat, lane, with_costs}
use Rattle.crn_lanes.specs.Inner.Lanes.{terms_at}
use Rattle.crn_lanes.proofs.Seats.{seat_within, seat_of_lane}
use Rattle.crn_lanes.proofs.Loaded.{lane_stands}
use Rattle.crn_lanes.proofs.run.run_states.Goals as goal

-- a lane begins as the state at its seat
pub run_blocks-requires-clause-stand : goal.run_blocks-requires-clause-stand
run_blocks-requires-clause-stand c k lt =
    let m = c.args.model.now in
    let xs = c.args.states.now in
    let i = seat (length xs) k in
    let v : Parts = get_or xs i (with_costs m []) in
    let read : slice_get xs i ≡ Some v = slice_get-get_or xs i (with_costs m []) (seat_within (length xs) k (omega (arith, c.requires.some, c.requires.count))) in
    ap next_block (c.in_ok-group.ensures.lanes k lt v read) ∙ (c.requires.stand i v read).next

pub loop-k-preserved : goal.loop-k-preserved
loop-k-preserved c =
    let m = c.args.model.now in
    let k = c.loop-k.k in
    let xs = c.args.states.now in
    let before = c.in_ok-group.group in
    let group = c.run_blocks.new.group in
    let v = c.in_ok-state_of.field-0 in
    let is : v ≡ lane m group k = c.in_ok-state_of.ensures in
    let inside : k < 16 = omega (arith, c.loop-k-test.true, c.requires.few) in
    let stands : StandsBefore m c.args.upto v = subst (StandsBefore m c.args.upto) (sym is) (lane_stands m group k c.args.upto c.run_blocks.ensures.group (c.run_blocks.ensures.stand k inside)) in
    let here : seat (length xs) k ≡ k = seat_of_lane (length xs) k (omega (arith, c.loop-k-test.true, c.requires.count)) in
    let same : seat (length c.args.policies.now) k ≡ k = seat_of_lane (length c.args.policies.now) k (omega (arith, c.loop-k-test.true)) in
    record {
      count = grind (arith, common_steps, c.in_ok-push.ensures.items, c.loop-k.invariant.count);
      run = each-grown _ c.loop-k.after.items c.push.new.self.items v k c.in_ok-push.ensures.items c.loop-k.invariant.count c.loop-k.invariant.run (
        stands,
        λ p w of_policy of_state.
            let began : lane m before k ≡ w = c.in_ok-group.ensures.lanes k inside w (subst (λ (i : ℕ). slice_get xs i ≡ Some w) (sym here) of_state) in
            let at : slice_get c.args.policies.now (seat (length c.args.policies.now) k) ≡ Some p = subst (λ (i : ℕ). slice_get c.args.policies.now i ≡ Some p) (sym same) of_policy in
            let low = c.levels_of-levels.ensures.low k p inside at in
            let high = c.levels_of-levels.ensures.high k p inside at in
            let terms : terms_at c.levels_of-levels.result m.costs k ≡ terms_of p m.costs = λ i. record (terms_of p m.costs) { low = low i; high = high i } in
            subst (λ (a : Parts). OnwardAt m p c.args.key w c.args.upto a) (sym is)
            (subst (λ (a : Parts). OnwardAt m p c.args.key a c.args.upto (lane m group k)) began (c.run_blocks.ensures.onward k p inside terms)),
      );
    }
