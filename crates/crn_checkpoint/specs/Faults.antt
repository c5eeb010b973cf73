-- The faults of reading and migrating: their numbers, and the fault of a text of which nothing was read.
use Rattle.std.specs.Prelude.{ℕ}
use Rattle.crn_draw.specs.declared.fault.DrawFault.{DrawFault}
use Rattle.crn_draw.specs.declared.fault.DrawFault.TheVariants as draw
use Rattle.crn_stock.specs.declared.restore.RestoreFault.{RestoreFault}
use Rattle.crn_stock.specs.declared.restore.RestoreFault.TheVariants as restore
use Rattle.crn_checkpoint.specs.declared.fault.CheckpointFault.{CheckpointFault}
use Rattle.crn_checkpoint.specs.declared.fault.CheckpointFault.TheVariants as fault
use Rattle.crn_checkpoint.specs.declared.fault.MigrateFault.{MigrateFault}
use Rattle.crn_checkpoint.specs.declared.fault.MigrateFault.TheVariants as migration
use Rattle.crn_checkpoint.specs.declared.fault.Unread.{Unread}
use Rattle.crn_checkpoint.specs.declared.fault.Unread.TheVariants as unread

-- the number that a fault is reported by
abbrev pub checkpoint_fault_number : CheckpointFault → ℕ
checkpoint_fault_number fault.NoCheckpoint = 1
checkpoint_fault_number fault.OtherScenario = 2
checkpoint_fault_number fault.OldVersion = 4
checkpoint_fault_number (fault.Memory _) = 90

abbrev pub migration_fault_number : MigrateFault → ℕ
migration_fault_number migration.NoCheckpoint = checkpoint_fault_number fault.NoCheckpoint
migration_fault_number migration.NewVersion = 5
migration_fault_number (migration.Memory refused) = checkpoint_fault_number (fault.Memory refused)

-- the fault for a text of which nothing was read
abbrev pub reading_fault : Unread → CheckpointFault
reading_fault unread.NoCheckpoint = fault.NoCheckpoint
reading_fault (unread.Memory refused) = fault.Memory refused

-- the migration fault of a text that cannot be read
abbrev pub migration_fault : Unread → MigrateFault
migration_fault unread.NoCheckpoint = migration.NoCheckpoint
migration_fault (unread.Memory refused) = migration.Memory refused

-- what a fault of the crates below says about a text: only a failed allocation says nothing
abbrev pub undrawn : DrawFault → Unread
undrawn draw.Empty = unread.NoCheckpoint
undrawn draw.Lengths = unread.NoCheckpoint
undrawn draw.Order = unread.NoCheckpoint
undrawn draw.Total = unread.NoCheckpoint
undrawn (draw.Memory refused) = unread.Memory refused

-- what a state that cannot be restored says of the text
abbrev pub unrestored : RestoreFault → Unread
unrestored restore.Range = unread.NoCheckpoint
unrestored (restore.Memory refused) = unread.Memory refused
