use Rattle.std.proofs.Common.{rules, arith}
use Rattle.std.proofs.lemmas.List.{take_rest, length-drop}
use Rattle.crn_engines.proofs.KnownBytes.{Appends-turn}
use Rattle.crn_engines.proofs.output.write_text.Goals as goal

pub loop-sent-preserved : goal.loop-sent-preserved
loop-sent-preserved g c =
    let bytes = rw take_rest at c.in-Ok.ensures.bytes in
    let room = rw (take_rest, length-drop) at c.in-Ok.ensures.bound in
    record {
      within = omega arith;
      went = Appends-turn _ _ _ _ _ _ c.loop-sent.invariant.went bytes;
    }

pub returns-in-Ok-eq0-clause-whole : goal.returns-in-Ok-eq0-clause-whole
returns-in-Ok-eq0-clause-whole g c = search rules
