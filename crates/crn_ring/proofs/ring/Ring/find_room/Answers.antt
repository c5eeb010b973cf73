use Rattle.std.proofs.Common.{◌≡◌, ◌+◌, inr, ap, sym, arith}
use Rattle.crn_steps.specs.declared.view.View.{View}
use Rattle.crn_steps.specs.Seats.{passed_in, producer_in, view_of}
use Rattle.crn_ring.proofs.Rooms.{is_full, never_late, passed_full, remembers_full}
use Rattle.crn_ring.proofs.ring.Ring.find_room.Goals as goal

pub returns-in-Full-clause-found : goal.returns-in-Full-clause-found
returns-in-Full-clause-found c = let g = c.in-Full.ensures.view in
    is_full c.args.self.now.words.spec (view_of c.args.seat.now) g.2.0 (view_of c.gauge.new.seat) c.args.n c.in-Full.reader c.in-Full.taken (sym c.requires.at.1) g.0 g.1 g.2.1 g.2.2 g.2.3

pub returns-in-Full-clause-remembers : goal.returns-in-Full-clause-remembers
returns-in-Full-clause-remembers c = let g = c.in-Full.ensures.view in let few = c.requires.blocks.1 in let small = c.args.self.now.words.small in
    remembers_full c.args.self.now.words.spec (view_of c.args.seat.now) g.2.0 (view_of c.gauge.new.seat) c.args.n c.in-Full.reader c.in-Full.taken _ (omega arith) g.0 g.1 g.2.1 g.2.2 g.2.3 c.requires.remembers

pub returns-in-Full-clause-passed : goal.returns-in-Full-clause-passed
returns-in-Full-clause-passed c = let g = c.in-Full.ensures.view in let few = c.requires.blocks.1 in let small = c.args.self.now.words.small in
    passed_full c.args.self.now.words.spec (view_of c.args.seat.now) g.2.0 (view_of c.gauge.new.seat) c.args.n c.in-Full.reader c.in-Full.taken c.requires.own.0.1 c.requires.at.1 (omega arith) g.1 g.2.1 g.2.3

pub returns-in-Least-clause-passed : goal.returns-in-Least-clause-passed
returns-in-Least-clause-passed c = let g = c.in-Least.ensures.view in
    let passed : passed_in c.gauge.new.seat ≡ passed_in c.args.seat.now + c.args.self.now.words.spec.readers = ap (λ (v : View). v.passed) g.0.same in
    let none = c.requires.rests.1 in
    inr (omega arith)

pub returns-in-Full-clause-quiet : goal.returns-in-Full-clause-quiet
returns-in-Full-clause-quiet c = λ room. let few = c.requires.blocks.1 in let small = c.args.self.now.words.small in let late = c.if-n-m.false in
    absurd (never_late c.args.self.now.words.spec (producer_in c.args.seat.now) c.args.n c.args.m c.args.least.now c.requires.at.1 (omega arith) (omega arith) c.requires.remembers room)

pub returns-in-Least-clause-quiet : goal.returns-in-Least-clause-quiet
returns-in-Least-clause-quiet c = λ room. let few = c.requires.blocks.1 in let small = c.args.self.now.words.small in let late = c.if-n-m.false in
    absurd (never_late c.args.self.now.words.spec (producer_in c.args.seat.now) c.args.n c.args.m c.args.least.now c.requires.at.1 (omega arith) (omega arith) c.requires.remembers room)
