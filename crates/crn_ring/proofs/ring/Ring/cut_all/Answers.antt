use Rattle.std.proofs.Common.{rules, ◌≡◌, sym, ◌∙◌, ap, subst}
use Rattle.crn_steps.specs.declared.view.View.{View}
use Rattle.crn_steps.specs.Holds.{opened}
use Rattle.crn_steps.specs.Plays.{cut_left, cut_right}
use Rattle.crn_ring.specs.Calls.{AllFresh}
use Rattle.crn_ring.proofs.Fresh.{fresh_push}
use Rattle.crn_steps.specs.Seats.{view_of}
use Rattle.crn_ring.proofs.ring.Ring.cut_all.Goals as goal

pub cut_reader-cut-requires-clause-first : goal.cut_reader-cut-requires-clause-first
cut_reader-cut-requires-clause-first c = let inv = c.loop-r.invariant in inv.1 ∙ ap (λ (v : View). opened c.args.self.now.words.spec v.number) (sym inv.1)

pub loop-r-preserved : goal.loop-r-preserved
loop-r-preserved c = let inv = c.loop-r.invariant in let e = c.cut_reader-cut.ensures in (
  e.own.0 ∙ inv.0,
  e.rest ∙ ap cut_left inv.1,
  search rules,
  search rules,
  subst (AllFresh c.args.self.now) (sym c.push_reserved.ensures.items) (fresh_push c.args.self.now c.loop-r.readers.items _ inv.4
      (let at : view_of c.cut_reader-cut.result ≡ cut_right (opened c.args.self.now.words.spec c.loop-r.r) = e.cut ∙ ap cut_right inv.1 in (
        (e.own.1 ∙ inv.0, ap (λ v. v.spec) at),
        sym inv.2,
        ap (λ v. v.reader) at,
      ))),
)
