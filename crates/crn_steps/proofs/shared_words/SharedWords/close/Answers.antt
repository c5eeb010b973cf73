use Rattle.std.proofs.Common.{◌≡◌, ℕ, ◌+◌, List, refl, sym, subst, arith}
use mathlib.Core.Option.{some}
use lib.ListN.{get_elem?}
use Rattle.crn_proto.specs.declared.spec.RingSpec.{RingSpec}
use Rattle.crn_steps.specs.Holds.{Holds}
use Rattle.crn_steps.proofs.Ending.{at_get, cursor_says, gate_says}
use Rattle.crn_steps.proofs.shared_words.SharedWords.close.Goals as goal

pub returns : goal.returns
returns c =
    let spec : RingSpec = c.args.self.spec in
    let fin = c.close_with-closed.ensures.values.2 in
    let s = fin.0 in
    let law : Holds spec s = subst (λ (z : RingSpec). Holds z s) c.args.self.keyed fin.1.0 in
    let is = c.requires.1 in
    let word : (i x : ℕ) → get_elem? _ i ≡ some x → get_elem? s.words i ≡ some x = λ i x e. subst (λ (l : List ℕ). get_elem? l i ≡ some x) (sym fin.2) e in
    let first = word 0 c.word-cursor.result c.word-cursor.ensures in
    let says = cursor_says spec s _ _ law fin.1.1 is c.word-cursor.result first in
    let inv = c.loop-r.invariant in record {
      published = says.0;
      ended = says.1;
      long = inv.0;
      cursors = record { last = s; rule = law; seat = _; view = _; at = fin.1.1; role = is; knows = refl; word = λ r inside. word (1 + r) _ (inv.1 r (omega arith)) };
      at_most = λ r inside ne. let h = (gate_says spec s _ _ law fin.1.1 is r _ inside (word (1 + r) _ (inv.1 r (omega arith)))).0 ne in let z = at_get s.words 0 _ first in omega arith;
      gates_low = λ r inside. (gate_says spec s _ _ law fin.1.1 is r _ inside (word (1 + r) _ (inv.1 r (omega arith)))).1;
      others = λ r past few. inv.2 r (omega arith) few;
    }
