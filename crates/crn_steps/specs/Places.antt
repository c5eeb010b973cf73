-- Whose a seat is, and what a step leaves of it.
use Rattle.std.specs.Prelude.{◌≡◌}
use Rattle.crn_steps.specs.declared.shared_words.SharedWords.{SharedWords}
use Rattle.crn_steps.specs.declared.view.View.{View}
use Rattle.crn_steps.specs.Holds.{HasProducer, HasReader}
use Rattle.crn_steps.specs.Seats.{Place, view_of, spec_in}

-- The seat is at the table of these words.
abbrev pub IsAt : SharedWords → Place → Type 0
IsAt words seat = (seat.table_id ≡ words.table.shared.table_id) × (spec_in seat ≡ words.spec)

-- The seat is the producer's, or a reader's, at these words.
abbrev pub IsProducerSeat : SharedWords → Place → Type 0
IsProducerSeat words seat = IsAt words seat × HasProducer (view_of seat)

abbrev pub IsReaderSeat : SharedWords → Place → Type 0
IsReaderSeat words seat = IsAt words seat × HasReader (view_of seat)

-- The seat is still the same actor's.
abbrev pub SameSeat : Place → Place → Type 0
SameSeat old new = (new.table_id ≡ old.table_id) × (new.id ≡ old.id)

-- The seat knows the view v now, and carries what it carried.
abbrev pub ViewBecomes : Place → Place → View → Type 0
ViewBecomes old new v = new.me ≡ (v, old.me.1)
