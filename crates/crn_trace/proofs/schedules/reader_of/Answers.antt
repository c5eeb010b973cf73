use Rattle.std.proofs.Common.{◌≡◌, ℕ, ◌<◌, Some, subst, sym, arith}
use Rattle.crn_trace.proofs.schedules.reader_of.Goals as goal

pub returns-in-Err-clause-every : goal.returns-in-Err-clause-every
returns-in-Err-clause-every c = λ r lt e.
    let whole : c.number_of_text.result ≡ Some r = c.number_of_text.ensures.every r (omega (arith, lt)) e in
    let read : c.number_of_text.result ≡ Some c.in-Some.number = c.in-Some.is in
    let same : c.in-Some.number ≡ r = cc in
    absurd (c.in-Err.ensures (subst (λ (n : ℕ). n < 4294967296) (sym same) (omega (arith, lt))))
