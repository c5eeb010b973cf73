use Rattle.std.proofs.Common.{rules, ◌≡◌, length, subst, None}
use Rattle.crn_draw.specs.Spread.{Weighted}
use Rattle.crn_draw.specs.Faults.{least_weights_fault}
use Rattle.crn_draw.proofs.Drawn.{total-length}
use Rattle.crn_draw.proofs.Rising.{no_fault}
use Rattle.crn_draw.proofs.weights.Weights.total.Goals as goal

pub returns-clause-length : goal.returns-clause-length
returns-clause-length c =
    let d = c.args.self.now in
    let same : length d.values ≡ length d.weights = search rules in
    total-length d _ same (search rules)

pub returns-clause-fits : goal.returns-clause-fits
returns-clause-fits c =
    let i = c.self.invariant in
    let f = c.self.inside in
    subst (λ (d : Weighted). least_weights_fault d.values d.weights ≡ None) c.self.view_is
    (no_fault f.values.items f.weights.items i.some i.same_length i.rising i.total_low i.total_high)
