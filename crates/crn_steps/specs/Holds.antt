-- The rule of the ring's table: the words and the parts in the views are lawful, and no two views name one actor.
use Rattle.std.specs.Prelude.{◌≡◌, ℕ, ◌-◌, false, List, [], ◌∷◌}
use mathlib.Core.Option.{some}
use lib.ListN.{get_elem?}
use Rattle.atomic_table.specs.Table.{State}
use Rattle.crn_proto.specs.declared.spec.RingSpec.{RingSpec}
use Rattle.crn_proto.specs.Ring.{IsRing, open_producer, open_reader}
use Rattle.crn_proto.specs.declared.actor_parts.Part.{Part}
use Rattle.crn_proto.specs.declared.actor_parts.Part.TheVariants.{OfReader}
use Rattle.crn_proto.specs.Views.{Rule, waiting_parts}
use Rattle.crn_steps.specs.declared.view.Role.{Role}
use Rattle.crn_steps.specs.declared.view.Role.TheVariants.{Producer, Reader}
use Rattle.crn_steps.specs.declared.view.View.{View}

-- the parts in a view of this role
abbrev pub parts_as : View → Role → List Part
parts_as v Producer = waiting_parts v.producer v.reader v.number (v.spec.readers - v.number)
parts_as v Reader = OfReader v.number v.reader ∷ []

-- the parts of the actors that a view names
abbrev pub parts_of_view : View → List Part
parts_of_view v = parts_as v v.role

-- The rule: there is such a ring, the words and the parts in the views are lawful, and each view is of this ring.
pub record Holds (spec : RingSpec) (s : State (Unit {0}) View) : Type 0 where
  pub ring : IsRing spec
  pub rule : Rule parts_of_view spec s.words s.views
  pub same_ring : (k : ℕ) (v : View) → get_elem? s.views k ≡ some v → v.spec ≡ spec

-- the view is the producer's, and no reader waits in it
abbrev pub HasProducer : View → Type 0
HasProducer v = (v.role ≡ Producer) × (v.number ≡ v.spec.readers)

-- the view is a reader's
abbrev pub HasReader : View → Type 0
HasReader v = v.role ≡ Reader

-- the view of the first seat when the readers below r have seats of their own
abbrev pub opened : RingSpec → ℕ → View
opened spec r = record { spec = spec; role = Producer; number = r; producer = open_producer spec; reader = open_reader spec; passed = 0; looked = false }
