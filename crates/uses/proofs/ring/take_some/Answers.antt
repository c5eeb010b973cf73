use Rattle.std.proofs.Common.{◌≡◌, ℕ, rules, subst, vec_len, arith}
use Rattle.crn_ring.specs.Calls.{HasLeft, left_part, reader_part}
use Rattle.uses.proofs.Leaving.{left_keeps}
use Rattle.uses.proofs.ring.take_some.Goals as goal

pub returns-then-places-eq0-clause-through : goal.returns-then-places-eq0-clause-through
returns-then-places-eq0-clause-through g c =
    let i = c.loop.invariant in
    let kept : (left_part c.into_left.result).taken ≡ (reader_part c.loop.reader).taken = search (rules, left_keeps c.loop.reader c.into_left.result) in
    let count : vec_len c.loop.taken.blocks ≡ c.args.most = search rules in
    record {
      key = i.key;
      first = i.first;
      count_is = count;
      left_ring = subst (λ (k : ℕ). HasLeft c.args.ring.now k c.into_left.result) i.number c.into_left.ensures.left;
      upto = omega (arith, kept, i.next, i.first, count);
    }
