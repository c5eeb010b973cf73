-- What the producer's part is after it has looked for room.
use Rattle.std.specs.Prelude.{◌≡◌, ℕ, ◌+◌, ◌<◌, ◌≤◌, ◌⊎◌, length, slice_index}
use Rattle.crn_proto.specs.declared.spec.RingSpec.{RingSpec}
use Rattle.crn_proto.specs.declared.actor_parts.ProducerPart.{ProducerPart}
use Rattle.crn_proto.specs.Ring.{LoadGate}
use Rattle.crn_steps.specs.declared.view.View.{View}
use Rattle.crn_ring.specs.declared.room.Gauge.{Gauge}
use Rattle.crn_ring.specs.declared.room.Gauge.TheVariants as Gate
use Rattle.crn_ring.specs.declared.room.Room.{Room}
use Rattle.crn_ring.specs.declared.room.Room.TheVariants.{Blocks, Full}
use Rattle.crn_ring.specs.Gates.{HaveRoom, Loaded}
use Rattle.crn_ring.specs.Inner.Gates.{LeastOf}
use Rattle.crn_steps.specs.Plays.{by_producer}
use Rattle.crn_ring.specs.Inner.Plays.{Gauged}
use Rattle.crn_ring.specs.Parts.{IsFull}

-- What the producer's view is after all its gates were loaded, up to the first that has no room for block n.
abbrev pub Gauges : RingSpec → ℕ → View → View → Gauge → Type 0
Gauges spec n v v' (Gate.Least least) = Gauged spec.size n spec.readers v v' × LeastOf spec.readers v'.producer.gates least
Gauges spec n v v' (Gate.Full r taken) = (r < spec.readers) × (n ≡ taken + spec.size) × ((u : View) × Gauged spec.size n r v u × (r < length u.producer.gates) × (v' ≡ by_producer (LoadGate r) taken u))

-- There is room for `count` of m blocks: for all of them, unless a gate that was loaded now has room for no more.
pub record HasFound (spec : RingSpec) (p p' : ProducerPart) (m count : ℕ) : Type 0 where
  pub some : 0 < count
  pub at_most : count ≤ m
  pub same : p' ≡ record p { gates = p'.gates; loads = p'.loads; steps = p'.steps }
  pub room : HaveRoom spec p' count
  pub until_full : count < m → Loaded spec.readers p p' × ((r : ℕ) × (r < spec.readers) × (p.published + count ≡ slice_index p'.gates r + spec.size))

abbrev pub Finds : RingSpec → ProducerPart → ProducerPart → ℕ → Room → Type 0
Finds spec p p' m (Blocks count) = HasFound spec p p' m count
Finds spec p p' m (Full r taken) = IsFull spec p p' r taken

-- how many readers the producer has passed then: none of them or all if it may store, none if there is no room
abbrev pub HasPassed : ℕ → ℕ → Room → Type 0
HasPassed readers passed (Blocks count) = (passed ≡ 0) ⊎ (passed ≡ readers)
HasPassed readers passed (Full r taken) = passed ≡ 0
