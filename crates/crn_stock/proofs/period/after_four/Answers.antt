use Rattle.std.proofs.Common.{rules, ◌≡◌, ◌+◌, ℕ, true, refl, subst, arith}
use Rattle.crn_stock.specs.Inner.Steps.{IsInventory}
use Rattle.crn_stock.specs.Stock.{terms_in}
use Rattle.crn_stock.proofs.Steps.{has_run_none, has_run_more}
use Rattle.crn_stock.proofs.period.after_four.Goals as goal

pub after_one-at-requires-2-clause-at : goal.after_one-at-requires-2-clause-at
after_one-at-requires-2-clause-at c = c.after_one-at.ensures.kept true (λ e. absurd (cc e)) c.requires.at

pub after_one-at-requires-3-clause-at : goal.after_one-at-requires-3-clause-at
after_one-at-requires-3-clause-at c =
    let time : c.args.period + 1 + 1 ≡ c.args.period + 2 = omega arith in
    subst (λ (t : ℕ). IsInventory true t c.after_one-at-2.result c.after_one-at-2.new.due) time
    (c.after_one-at-2.ensures.kept true (λ e. absurd (cc e)) (c.after_one-at.ensures.kept true (λ e. absurd (cc e)) c.requires.at))

pub after_one-requires-clause-at : goal.after_one-requires-clause-at
after_one-requires-clause-at c =
    let time : c.args.period + 1 + 1 ≡ c.args.period + 2 = omega arith in
    let later : c.args.period + 2 + 1 ≡ c.args.period + 3 = omega arith in
    let two = c.after_one-at-2.ensures.kept true (λ e. absurd (cc e)) (c.after_one-at.ensures.kept true (λ e. absurd (cc e)) c.requires.at) in
    subst (λ (t : ℕ). IsInventory true t c.after_one-at-3.result c.after_one-at-3.new.due) later
    (c.after_one-at-3.ensures.kept true (λ e. absurd (cc e)) (subst (λ (t : ℕ). IsInventory true t c.after_one-at-2.result c.after_one-at-2.new.due) time two))

pub returns : goal.returns
returns c =
    let p = terms_in c.args.terms.now in
    let ds = c.args.draws.now in
    let t = c.args.period in
    let x = c.args.at in
    let due = c.args.due.now in
    let at : t ≡ t + 0 = omega arith in
    let one = has_run_more p ds t 0 t x x c.after_one-at.result due due c.after_one-at.new.due c.nth-first.result (has_run_none p ds t x due) at c.nth-first.ensures c.after_one-at.ensures.kept c.after_one-at.ensures.moved in
    let two = has_run_more p ds t 1 (t + 1) x c.after_one-at.result c.after_one-at-2.result due c.after_one-at.new.due c.after_one-at-2.new.due c.nth-second.result one refl c.nth-second.ensures c.after_one-at-2.ensures.kept c.after_one-at-2.ensures.moved in
    let three = has_run_more p ds t 2 (t + 2) x c.after_one-at-2.result c.after_one-at-3.result due c.after_one-at-2.new.due c.after_one-at-3.new.due c.nth-third.result two refl c.nth-third.ensures c.after_one-at-3.ensures.kept c.after_one-at-3.ensures.moved in
    has_run_more p ds t 3 (t + 3) x c.after_one-at-3.result c.after_one.result due c.after_one-at-3.new.due c.after_one.new.due c.nth-fourth.result three refl c.nth-fourth.ensures c.after_one.ensures.kept c.after_one.ensures.moved

pub after_one-at-requires-clause-period : goal.after_one-at-requires-clause-period
after_one-at-requires-clause-period c = search rules

pub after_one-at-requires-clause-place : goal.after_one-at-requires-clause-place
after_one-at-requires-clause-place c = search rules

pub after_one-at-requires-clause-at : goal.after_one-at-requires-clause-at
after_one-at-requires-clause-at c = search rules

pub after_one-at-requires-2-clause-period : goal.after_one-at-requires-2-clause-period
after_one-at-requires-2-clause-period c = search rules

pub after_one-at-requires-2-clause-place : goal.after_one-at-requires-2-clause-place
after_one-at-requires-2-clause-place c = search rules

pub after_one-at-requires-3-clause-period : goal.after_one-at-requires-3-clause-period
after_one-at-requires-3-clause-period c = search rules

pub after_one-at-requires-3-clause-place : goal.after_one-at-requires-3-clause-place
after_one-at-requires-3-clause-place c = search rules

pub after_one-requires-clause-period : goal.after_one-requires-clause-period
after_one-requires-clause-period c = search rules

pub after_one-requires-clause-place : goal.after_one-requires-clause-place
after_one-requires-clause-place c = search rules
