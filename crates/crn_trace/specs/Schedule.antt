-- The text of a schedule: a line for each actor.
use Rattle.std.specs.Prelude.{◌≡◌, ℕ, ◌^◌, ◌⊎◌, ⊤, List, [], ◌∷◌, ◌++◌, Bool, true, false, nat_lt, codes, decimal}
use Rattle.std.specs.List.{list_all}
use Rattle.crn_proto.specs.declared.schedule.Actor.{Actor}
use Rattle.crn_proto.specs.declared.schedule.Actor.TheVariants.{Producer, Finish, Reader, Leave}
use Rattle.crn_trace.specs.declared.schedule_fault.ScheduleFault.{ScheduleFault}
use Rattle.crn_trace.specs.declared.schedule_fault.ScheduleFault.TheVariants as fault

-- an actor as it stands in a line
abbrev pub actor_text : Actor → List ℕ
actor_text Producer = codes "p"
actor_text Finish = codes "e"
actor_text (Reader r) = codes "r" ++ decimal r
actor_text (Leave r) = codes "l" ++ decimal r

-- the actors' lines, each of them ended by a line feed
abbrev pub actor_lines : List Actor → List ℕ
actor_lines [] = []
actor_lines (who ∷ actors) = actor_text who ++ 10 ∷ actor_lines actors

-- a reader's number is below a bound; the producer has none
abbrev pub is_below : ℕ → Actor → Bool
is_below bound Producer = true
is_below bound Finish = true
is_below bound (Reader r) = nat_lt r bound
is_below bound (Leave r) = nat_lt r bound

abbrev pub are_below : ℕ → List Actor → Bool
are_below bound actors = list_all (is_below bound) actors

-- the bytes are a text of the actors: their lines, of which the last may lack its line feed
pub record IsTextOfActors (actors : List Actor) (bytes : List ℕ) : Type 0 where
  pub numbers : are_below (2 ^ 32) actors ≡ true
  pub text : (bytes ≡ actor_lines actors) ⊎ (bytes ++ 10 ∷ [] ≡ actor_lines actors)

-- the schedule of the bytes: they are a text of these actors and of no others
pub record IsScheduleOf (bytes : List ℕ) (actors : List Actor) : Type 0 where
  pub is_text : IsTextOfActors actors bytes
  pub no_other : (others : List Actor) → IsTextOfActors others bytes → others ≡ actors

-- the bytes are a text of no actors
abbrev pub HasNoSchedule : List ℕ → Type 0
HasNoSchedule bytes = (actors : List Actor) → ¬ IsTextOfActors actors bytes

-- the bytes are the text of a schedule with a reader that is not below the number of readers
pub record HasUnknownReader (readers : ℕ) (bytes : List ℕ) : Type 0 where
  pub actors : List Actor
  pub schedule : IsScheduleOf bytes actors
  pub unknown : are_below readers actors ≡ false

-- what a refusal says of the bytes: a failed allocation says nothing
abbrev pub RefusesSchedule : ℕ → ScheduleFault → List ℕ → Type 0
RefusesSchedule readers fault.Line bytes = HasNoSchedule bytes
RefusesSchedule readers fault.Reader bytes = HasUnknownReader readers bytes
RefusesSchedule readers (fault.Memory _) bytes = ⊤

-- the number by which a fault is told
abbrev pub schedule_fault_number : ScheduleFault → ℕ
schedule_fault_number fault.Line = 1
schedule_fault_number fault.Reader = 2
schedule_fault_number (fault.Memory _) = 90
