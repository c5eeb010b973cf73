use Rattle.std.proofs.Common.{◌≡◌, rules, ◌∙◌, ℕ, List, ap, refl, w64}
use Rattle.std.proofs.lemmas.Int.{to_z-of_z}
use Rattle.crn_lanes.specs.Inner.Lanes.{column}
use Rattle.crn_lanes.specs.Inner.Groups.{lane}
use Rattle.crn_lanes.proofs.Loaded.{lane_restores, restores_as}
use Rattle.crn_lanes.proofs.unload.state_of.Goals as goal

pub unreachable-requires : goal.unreachable-requires
unreachable-requires c =
    let m = c.args.model.now in
    let v = lane m c.args.group.now c.args.k in
    let can = lane_restores m c.args.group.now c.args.k c.args.next c.requires.group c.requires.k c.requires.next c.requires.below in
    let amount : c.without_bias-stock.result ≡ v.stock = search (rules, c.without_bias-stock.ensures) in
    let stock = to_z-of_z w64 c.without_bias-stock.result (search rules) ∙ amount in
    let costs = c.deref-2.ensures.value ∙ c.in_ok-costs.ensures ∙ ap (λ (rows : List (List ℕ)). column rows c.args.k) c.deref.ensures.value in
    c.in-Err-Range.ensures.refused (λ e. cc (c.in-Err-Range.field-0-is, e)) (restores_as m c.args.next v _ _ _ _ stock c.due_from-due.ensures refl costs can)
