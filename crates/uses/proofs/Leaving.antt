-- What a reader that has left has taken.
use Rattle.std.proofs.Common.{◌≡◌, ℕ, ◌≤◌, false, true, List, [], ◌∷◌, Result, Ok, Err, IfOk, length, ap, sym, subst, ◌∙◌, arith}
use Rattle.crn_proto.specs.declared.actor_parts.ReaderPart.{ReaderPart}
use Rattle.crn_proto.specs.Ring.{ReaderMay, ReaderMove, reader_after, LoadCursor, LoadWord, Take, Leave}
use Rattle.crn_proto.specs.Chains.{Chain, ReaderReaches}
use Rattle.crn_ring.specs.declared.reader.LeftReader.{LeftReader}
use Rattle.crn_ring.specs.declared.reader.Reader.{Reader}
use Rattle.crn_ring.specs.declared.ring.Ring.{Ring}
use Rattle.crn_ring.specs.Calls.{left_part, reader_part, spec_of}
use Rattle.uses.specs.declared.ring.BlocksFault.{BlocksFault}
use Rattle.uses.specs.declared.taken.Taken.{Taken}
use Rattle.uses.specs.Passing.{CameThrough, CameThroughARing, small_ring}

-- one move by which a reader leaves takes nothing
by_one : (p q : ReaderPart) (m : ReaderMove) (found : ℕ) → p.left ≡ false → q.left ≡ true → q ≡ reader_after p m found → q.taken ≡ p.taken
by_one p q LoadCursor found here left is = ap (λ (x : ReaderPart). x.taken) is
by_one p q LoadWord found here left is = ap (λ (x : ReaderPart). x.taken) is
by_one p q (Take c) found here left is =
    let never : false ≡ true = sym here ∙ (sym (ap (λ (x : ReaderPart). x.left) is) ∙ left) in
    absurd (cc never)
by_one p q Leave found here left is = ap (λ (x : ReaderPart). x.taken) is

by_few : (p q : ReaderPart) (xs : List (ReaderMove × ℕ)) → p.left ≡ false → q.left ≡ true → Chain ReaderMay reader_after p xs q → length xs ≤ 1 → q.taken ≡ p.taken
by_few p q [] here left chain few = ap (λ (x : ReaderPart). x.taken) chain
by_few p q (x ∷ []) here left chain few = by_one p q x.0 x.1 here left chain.1
by_few p q (x ∷ y ∷ xs) here left chain few = absurd (omega (arith, few))

-- a reader that leaves by at most one move has taken what it had taken
pub left_keeps : (r : Reader) (x : LeftReader) → ReaderReaches (reader_part r) 1 (left_part x) → (left_part x).taken ≡ (reader_part r).taken
left_keeps r x reaches = by_few (reader_part r) (left_part x) reaches.0 r.here x.left reaches.1 reaches.2

-- what came through this ring came through one of that kind
pub by_ring : (ring : Ring) (key : List ℕ) (total count k n most : ℕ) (r : Result (Taken × LeftReader) BlocksFault) → spec_of ring ≡ small_ring key total → k ≡ 0 → n ≡ 0 → count ≡ most
    → IfOk r (λ x. CameThrough ring k n count x.0 x.1) → IfOk r (λ x. CameThroughARing key total most x.0 x.1)
by_ring ring key total count k n most (Ok x) spec first begun all h = record {
  ring = ring;
  spec = spec;
  came = subst (λ (m : ℕ). CameThrough ring 0 0 m x.0 x.1) all (subst (λ (m : ℕ). CameThrough ring 0 m count x.0 x.1) begun (subst (λ (m : ℕ). CameThrough ring m n count x.0 x.1) first h));
}
by_ring ring key total count k n most (Err e) spec first begun all h = h
