-- How a thread waits between two looks at a ring that show it nothing to do.
use Rattle.std.specs.Prelude.{◌≡◌, ◌≢◌, ℕ, ◌+◌, ◌-◌, ◌*◌, ◌/◌, ◌^◌, ◌<◌, ◌≤◌, max}
use Rattle.std.specs.Duration.{as_nanos}
use Rattle.crn_run.specs.declared.pausing.Pause.{Pause}
use Rattle.crn_run.specs.declared.pausing.Pause.TheVariants.{Spin, Yield, Sleep}
use Rattle.crn_run.specs.declared.waiting.Counted.{Counted}

-- The times and counts of waits stand here as numbers, not as the code's constants: another value of a constant is refused.

-- the nanoseconds for which a reader of a ring of so many slots sleeps: a microsecond for each 8 slots, less 16 for a timer's
-- lateness, but no less than 8 microseconds
abbrev pub reader_sleep : ℕ → ℕ
reader_sleep size = max (size / 8 - 16) 8 * 1_000

-- and its producer: a microsecond for each 64 slots, but no less than 8 microseconds
abbrev pub producer_sleep : ℕ → ℕ
producer_sleep size = max (size / 64) 8 * 1_000

-- On a ring of 128 slots or more it is a sleep for so many nanoseconds. On another the first 4 waits spin, each for twice as many
-- hints as the one before, the next 16 yield, and all others sleep for that time.

-- The pause after `awake` waits that did not sleep.
abbrev pub Comes : ℕ → ℕ → ℕ → Pause → Type 0
Comes size nanos awake (Spin hints) = (awake < 4) × (size < 128) × (hints ≡ 2 ^ awake)
Comes size nanos awake Yield = (4 ≤ awake) × (awake < 4 + 16) × (size < 128)
Comes size nanos awake (Sleep time) = (size < 128 → 4 + 16 ≤ awake) × (as_nanos time ≡ nanos)

-- how many waits did not sleep, one more wait counted
abbrev pub with_pause : ℕ → Pause → ℕ
with_pause awake (Spin hints) = awake + 1
with_pause awake Yield = awake + 1
with_pause awake (Sleep time) = awake

-- p comes next, and is counted
pub record Next (size nanos awake : ℕ) (w' : Counted) (p : Pause) : Type 0 where
  pub comes : Comes size nanos awake p
  pub counted : w'.awake ≡ with_pause awake p

-- p is the next pause, for block n. Waits for another block count no more.
pub record Waits (size nanos n : ℕ) (w w' : Counted) (p : Pause) : Type 0 where
  pub for_block : w'.block ≡ n
  pub same : w.block ≡ n → Next size nanos w.awake w' p
  pub other : w.block ≢ n → Next size nanos 0 w' p
