use Rattle.std.proofs.Common.{rules, ◌≡◌, length, ◌+◌, List, [], ◌∷◌, ◌++◌, subst, arith}
use Rattle.std.proofs.lemmas.Grind.{common_steps}
use Rattle.crn_ring.specs.declared.reader.Reader.{Reader}
use Rattle.crn_ring.specs.Calls.{IsFresh}
use Rattle.crn_sequential.proofs.Growing.{each-last}
use Rattle.uses.proofs.ring.first_of.Goals as goal

pub returns : goal.returns
returns c =
    let x : Reader = c.in-Some.reader in
    let front : List Reader = c.pop.new.self.items in
    let whole : c.args.readers.items ≡ front ++ x ∷ [] = search rules in
    let longer : length c.args.readers.items ≡ length front + 1 = grind (arith, common_steps, whole) in
    let none : length front ≡ 0 = omega (arith, longer, c.requires.0) in
    subst (λ (k : _). IsFresh c.args.ring.now k x) none (each-last (IsFresh c.args.ring.now) front c.args.readers.items x whole c.requires.1)
