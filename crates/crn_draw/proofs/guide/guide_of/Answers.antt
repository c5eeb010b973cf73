use Rattle.std.proofs.Common.{rules, ◌≡◌, ℕ, arith, subst}
use Rattle.crn_draw.specs.declared.guide.Bracket.{Bracket}
use Rattle.crn_draw.specs.Inner.Runs.{IsBracket}
use Rattle.crn_draw.specs.Inner.Guide.{first_place, last_place, EntryFits, BracketFits, no_bracket}
use Rattle.crn_draw.proofs.Guides.{last-next, bracket-between, one-more}
use Rattle.crn_draw.proofs.guide.guide_of.Goals as goal

-- the runs of the places of the words of a turn, from what its two searches found
found : (c : goal.In_ok-push-2)
    → IsBracket c.args.runs.now (first_place c.loop-bits.bits c.args.total) (last_place c.loop-bits.bits c.args.total) c.index_of-first.result c.index_of-last.result
found c =
    let runs = c.args.runs.now in
    let low : c.place_at.result ≡ first_place c.loop-bits.bits c.args.total = search rules in
    let high : c.place_at-in-loop-bits.result ≡ last_place c.loop-bits.bits c.args.total = search rules in
    bracket-between runs _ _ _ _ c.index_of-last.ensures.onward
    (subst (λ (p : ℕ). IsBracket runs p p c.index_of-first.result c.index_of-first.result) low c.index_of-first.ensures.found)
    (subst (λ (p : ℕ). IsBracket runs p p c.index_of-last.result c.index_of-last.result) high c.index_of-last.ensures.found)

pub loop-bits-preserved : goal.loop-bits-preserved
loop-bits-preserved c =
    let bits = c.loop-bits.bits in
    let runs = c.args.runs.now in
    let total = c.args.total in
    let before = c.loop-bits.invariant in
    let bracket : Bracket = record { first = c.index_of-first.result; last = c.index_of-last.result } in
    record {
      inside = search rules;
      begun = omega (arith, c.index_of-last.ensures.found.begun, c.place_at-in-loop-bits.ensures, last-next bits total);
      entries_made = search rules;
      brackets_made = search rules;
      each_entry = one-more (EntryFits runs total) bits c.loop-bits.entries.items c.push.new.self.items c.entry_of.result 0
          (search rules) before.entries_made before.each_entry (c.entry_of.ensures _ _ (found c));
      each_bracket = one-more (BracketFits runs total) bits c.loop-bits.brackets.items c.push-in-loop-bits.new.self.items bracket no_bracket
          (search rules) before.brackets_made before.each_bracket (found c);
    }
