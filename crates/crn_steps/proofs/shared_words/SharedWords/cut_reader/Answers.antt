use Rattle.std.proofs.Common.{sym, subst, arith}
use Rattle.atomic_table.specs.Table.{Splits}
use Rattle.crn_steps.specs.declared.view.View.{View}
use Rattle.crn_steps.specs.Holds.{Holds}
use Rattle.crn_steps.specs.Plays.{cut_left, cut_right}
use Rattle.crn_steps.proofs.Beginning.{cuts}
use Rattle.crn_steps.specs.Seats.{view_of}
use Rattle.crn_steps.proofs.shared_words.SharedWords.cut_reader.Goals as goal

pub split_seat-requires : goal.split_seat-requires
split_seat-requires c = let spec = c.args.self.now.spec in let seat = c.args.seat.now in (
  c.requires.own,
  omega (arith, c.args.self.now.counted),
  rw c.args.self.now.keyed (subst (λ (z : View). Splits (Holds spec) seat.id z (cut_left z) (cut_right z)) (sym c.requires.first) (cuts spec seat.id (view_of seat).number c.requires.waits)),
)
