use Rattle.std.proofs.Common.{rules, ◌≡◌, ℕ, ◌+◌, true, refl, subst, arith}
use Rattle.crn_stock.specs.Inner.Steps.{HasRunPeriods}
use Rattle.crn_stock.specs.Stock.{terms_in}
use Rattle.crn_stock.proofs.Steps.{has_run_more}
use Rattle.crn_stock.proofs.period.after_all.Goals as goal

pub after_one-at-requires-clause-at : goal.after_one-at-requires-clause-at
after_one-at-requires-clause-at c = c.loop-k.invariant.kept true (λ e. absurd (cc e)) c.requires.at

pub loop-k-preserved : goal.loop-k-preserved
loop-k-preserved c =
    has_run_more (terms_in c.args.terms.now) c.args.draws.now c.args.period c.loop-k.k (c.args.period + c.loop-k.k) c.args.at c.loop-k.at c.after_one-at.result c.args.due.now c.loop-k.due c.after_one-at.new.due c.nth.result
    c.loop-k.invariant refl c.nth.ensures c.after_one-at.ensures.kept c.after_one-at.ensures.moved

pub returns : goal.returns
returns c =
    let all : c.loop-k.k ≡ c.args.count = omega (arith, c.loop-k-test.false, c.loop-k.auto.k-end) in
    subst (λ (n : ℕ). HasRunPeriods (terms_in c.args.terms.now) c.args.draws.now c.args.period n c.args.at c.loop-k.at c.args.due.now c.loop-k.due) all c.loop-k.invariant

pub after_one-at-requires-clause-period : goal.after_one-at-requires-clause-period
after_one-at-requires-clause-period c = search rules

pub after_one-at-requires-clause-place : goal.after_one-at-requires-clause-place
after_one-at-requires-clause-place c = search rules

pub after_four-requires-clause-period : goal.after_four-requires-clause-period
after_four-requires-clause-period c = search rules

pub after_four-requires-clause-aligned : goal.after_four-requires-clause-aligned
after_four-requires-clause-aligned c = search rules

pub after_four-requires-clause-at : goal.after_four-requires-clause-at
after_four-requires-clause-at c = search rules

pub loop-k-init : goal.loop-k-init
loop-k-init c = search rules

pub returns-then-count-eq-STREAM_WORDS : goal.returns-then-count-eq-STREAM_WORDS
returns-then-count-eq-STREAM_WORDS c = search rules
