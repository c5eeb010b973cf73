-- What the seat of an actor knows of the ring.
use Rattle.std.specs.Prelude.{ℕ, Bool}
use Rattle.atomic_table.specs.declared.shared.Seat.{Seat}
use Rattle.crn_proto.specs.declared.spec.RingSpec.{RingSpec}
use Rattle.crn_proto.specs.declared.actor_parts.ProducerPart.{ProducerPart}
use Rattle.crn_proto.specs.declared.actor_parts.ReaderPart.{ReaderPart}
use Rattle.crn_steps.specs.declared.view.View.{View}

-- a seat at the table of a ring
abbrev pub Place : Type 0
Place = Seat (Unit {0}) View

-- the view that a seat has
abbrev pub view_of : Place → View
view_of seat = seat.me.0

-- the ring, as it was opened
abbrev pub spec_in : Place → RingSpec
spec_in seat = (view_of seat).spec

-- the part of the ring's state that is the producer's, or a reader's
abbrev pub producer_in : Place → ProducerPart
producer_in seat = (view_of seat).producer

-- the part of the ring's state that is a reader's
abbrev pub reader_in : Place → ReaderPart
reader_in seat = (view_of seat).reader

-- how many cursors the producer has loaded in turn that let the next block in
abbrev pub passed_in : Place → ℕ
passed_in seat = (view_of seat).passed

-- whether the reader has looked how far blocks are published, and has taken none since
abbrev pub looked_in : Place → Bool
looked_in seat = (view_of seat).looked
