use Rattle.std.proofs.Common.{decimal, arith, IsUtf8}
use Rattle.std.proofs.lemmas.Fmt.{IsAscii-decimal}
use Rattle.std.proofs.lemmas.Str.{IsUtf8-from_ascii}
use Rattle.crn_trace.proofs.schedules.reader_number.Goals as goal

pub returns-in-Err-clause-every : goal.returns-in-Err-clause-every
returns-in-Err-clause-every c = λ n lt e.
    let text : IsUtf8 c.args.digits.now = rw e (IsUtf8-from_ascii (decimal n) (IsAscii-decimal n (omega arith))) in
    absurd (c.in-Err.ensures.cases.0 text)
