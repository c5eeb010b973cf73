use Rattle.std.proofs.Common.{rules, ◌≡◌, ℕ, ◌+◌, ◌-◌, ◌*◌, ap, subst, arith}
use Rattle.crn_cipher.specs.declared.TheConstants.{BLOCK_WORDS}
use Rattle.crn_proto.specs.Chains.{ReaderReaches}
use Rattle.crn_ring.proofs.Bounds.{reader_steps}
use Rattle.crn_ring.proofs.Rooms.{take_moves}
use Rattle.crn_steps.specs.Seats.{reader_in}
use Rattle.crn_ring.proofs.reader.Reader.take_batch.Goals as goal

pub returns-clause-moves : goal.returns-clause-moves
returns-clause-moves c = let count : ℕ = c.take_seen-count.result in
    let q = reader_in c.args.self.now.seat in
    let looked = reader_in c.load_cursor-cursor.new.seat in
    let q' = reader_in c.take_seen-count.new.seat in
    let taken_looked : looked.taken ≡ q.taken = ap (λ m. m.0.reader.taken) c.load_cursor-cursor.ensures.view in
    let taken_last : q'.taken ≡ looked.taken + count = c.take_seen-count.ensures.taken.0.taken in
    let risen : count ≡ q'.taken - q.taken = omega arith in
    subst (λ (z : ℕ). ReaderReaches q (BLOCK_WORDS * z + 2) q') risen (take_moves q looked q' count c.load_cursor-cursor.ensures.moved c.take_seen-count.ensures.moved)

pub load_cursor-cursor-requires-clause-goes_on : goal.load_cursor-cursor-requires-clause-goes_on
load_cursor-cursor-requires-clause-goes_on c = let p = c.args.self.now in
    λ looked. let all = p.looks looked in let saw = p.saw in let counts = p.counts in omega arith

pub returns-clause-steps : goal.returns-clause-steps
returns-clause-steps c = reader_steps _ _ _ _ (returns-clause-moves c)

pub returns-clause-answer : goal.returns-clause-answer
returns-clause-answer c = search rules
