-- The rule of a table whose seats' views have parts, one for a seat of one actor, and all of them for the first seat.
use Rattle.std.specs.Prelude.{ℕ, zero, suc, ◌+◌, ◌≤◌, ◌==◌, cond, List, [], ◌∷◌}
use Rattle.std.specs.List.{flat_map}
use Rattle.crn_proto.specs.declared.spec.RingSpec.{RingSpec}
use Rattle.crn_proto.specs.Ring.{Producer, Reader}
use Rattle.crn_proto.specs.Lawful.{Part, OfProducer, OfReader, Lawful, own_cursor}

-- 1 where the part is of the actor that owns the cursor a
abbrev pub is_of : ℕ → Part → ℕ
is_of a part = cond (own_cursor part == a) 1 0

-- how many parts are the actor's
abbrev pub parts_named : ℕ → List Part → ℕ
parts_named a [] = 0
parts_named a (x ∷ xs) = is_of a x + parts_named a xs

-- The rule of a table: lawful, and no two views name one actor.
pub record Rule {X : Type 0} (f : X → List Part) (spec : RingSpec) (words : List ℕ) (views : List X) : Type 0 where
  pub lawful : Lawful spec words (flat_map f views)
  pub single : (a : ℕ) → parts_named a (flat_map f views) ≤ 1

-- the parts of `count` readers from number r on, all alike, and of the producer
abbrev pub waiting_parts : Producer → Reader → ℕ → ℕ → List Part
waiting_parts p q r zero = OfProducer p ∷ []
waiting_parts p q r (suc count) = OfReader r q ∷ waiting_parts p q (suc r) count
