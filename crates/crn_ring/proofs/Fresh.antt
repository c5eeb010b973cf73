-- A fresh reader more.
use Rattle.std.proofs.Common.{List, [], ◌∷◌, ◌++◌, length, inl, inr}
use Rattle.crn_steps.proofs.Lists.{last_cases}
use Rattle.crn_ring.specs.declared.ring.Ring.{Ring}
use Rattle.crn_ring.specs.declared.reader.Reader.{Reader}
use Rattle.crn_ring.specs.Calls.{IsFresh, AllFresh}

pub fresh_push : (ring : Ring) (xs : List Reader) (y : Reader) → AllFresh ring xs → IsFresh ring (length xs) y → AllFresh ring (xs ++ y ∷ [])
fresh_push ring xs y all one r x e = elim (last_cases xs y x r e) [ inl old ↦ all r x old | inr (at, is) ↦ rw (at, is) one ]
