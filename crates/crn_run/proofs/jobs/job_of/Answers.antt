use Rattle.std.proofs.Common.{rules, ◌≡◌, ◌<◌, length, Some, slice_get, refl, subst, sym, arith}
use Rattle.std.proofs.lemmas.Option.{slice_get_read}
use Rattle.crn_stock.specs.Parts.{Parts}
use Rattle.crn_run.proofs.jobs.job_of.Goals as goal

pub returns-clause-state : goal.returns-clause-state
returns-clause-state c =
    let start = c.args.start.now.states.items in
    let inside : c.number-policy.result < length start = omega (arith, c.number-policy.ensures.part, c.requires) in
    let same : c.in_ok-state.state ≡ c.index.result.now = search rules in
    let there : slice_get start c.number-policy.result ≡ Some c.index.result.now = slice_get_read start (length start) c.number-policy.result c.index.result.now refl inside c.index.ensures in
    subst (λ (w : Parts). slice_get start c.number-policy.result ≡ Some w) (sym same) there
