use Rattle.std.proofs.Common.{rules, ◌≡◌, ◌+◌, length, List, [], ◌∷◌, ◌++◌, Some, slice_get, subst, ap, arith, length-append}
use Rattle.crn_stock.specs.Parts.{Parts}
use Rattle.crn_ring.specs.declared.reader.Reader.{Reader}
use Rattle.crn_run.specs.declared.worker.PolicyEnd.{PolicyEnd}
use Rattle.crn_run.specs.declared.worker.PolicyEnd.TheVariants.{Reached}
use Rattle.crn_sequential.proofs.Growing.{each-front, each-grown, each-last}
use Rattle.crn_run.proofs.Ending.{StateFrom, ReaderFrom, reached_end, state_from, reader_from}
use Rattle.crn_run.proofs.run.gather.Goals as goal

pub loop-end-preserved : goal.loop-end-preserved
loop-end-preserved c =
    let all : List PolicyEnd = c.args.ends.items in
    let before : List PolicyEnd = c.loop-end.ends.items in
    let front : List PolicyEnd = c.pop.new.self.items in
    let states : List Parts = c.loop-end.states.items in
    let readers : List Reader = c.loop-end.readers.items in
    let w : Parts = c.in-Reached.state in
    let x : Reader = c.in-Reached.reader in
    let inv = c.loop-end.invariant in
    let whole : before ≡ front ++ c.in-Some.end ∷ [] = c.in-Some.ensures.items in
    let last : slice_get all (length front) ≡ Some c.in-Some.end = each-last (λ i e. slice_get all i ≡ Some e) front before c.in-Some.end whole inv.rest in
    let reached : slice_get all (length front) ≡ Some (Reached w x) = subst (λ (e : PolicyEnd). slice_get all (length front) ≡ Some e) c.in-Reached.is last in
    let longer : length before ≡ length front + 1 = omega (arith, ap length whole, length-append front (c.in-Some.end ∷ [])) in
    let state_place : length states + (length front + 1) ≡ length all = omega (arith, longer, inv.state_count) in
    let reader_place : length readers + (length front + 1) ≡ length all = omega (arith, longer, inv.reader_count) in
    let more_states : c.push_reserved.new.self.items ≡ states ++ w ∷ [] = search rules in
    let more_readers : c.push_reserved-in-Reached.new.self.items ≡ readers ++ x ∷ [] = search rules in
    record {
      rest = each-front (λ i e. slice_get all i ≡ Some e) front before c.in-Some.end whole inv.rest;
      states = each-grown (StateFrom all) states c.push_reserved.new.self.items w (length states) more_states (λ _. length states) inv.states (state_from all (length states) (length front) w x state_place reached);
      readers = each-grown (ReaderFrom all) readers c.push_reserved-in-Reached.new.self.items x (length readers) more_readers (λ _. length readers) inv.readers
          (reader_from all (length readers) (length front) w x reader_place reached);
      state_count = omega (arith, state_place, ap length more_states, length-append states (w ∷ []));
      reader_count = omega (arith, reader_place, ap length more_readers, length-append readers (x ∷ []));
      state_room = search rules;
      reader_room = search rules;
    }

pub unreachable-requires : goal.unreachable-requires
unreachable-requires c =
    let front : List PolicyEnd = c.pop.new.self.items in
    let e : PolicyEnd = c.in-Some.end in
    let last : slice_get c.args.ends.items (length front) ≡ Some e = each-last (λ i d. slice_get c.args.ends.items i ≡ Some d) front c.loop-end.ends.items e c.in-Some.ensures.items c.loop-end.invariant.rest in
    let reached : (w : Parts) × (x : Reader) × (e ≡ Reached w x) = reached_end c.args.ends.items (length front) e c.requires.reached last in
    search (rules, reached.2)
