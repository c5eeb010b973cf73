-- Why a checkpoint that was read is refused.
use Rattle.std.specs.Prelude.{◌≡◌}
use Rattle.crn_stock.specs.Models.{ScenarioParts, IsSameButRing}
use Rattle.crn_checkpoint.specs.declared.version.Version.{Version}
use Rattle.crn_checkpoint.specs.declared.version.Version.TheVariants as version
use Rattle.crn_checkpoint.specs.declared.fault.CheckpointFault.{CheckpointFault}
use Rattle.crn_checkpoint.specs.declared.fault.CheckpointFault.TheVariants as fault

-- what a fault says of a checkpoint of scenario s, in version v, that scenario t asks for
abbrev pub IsRefusedFor : CheckpointFault → Version → ScenarioParts → ScenarioParts → Type 0
IsRefusedFor fault.NoCheckpoint v s t = ⊥
IsRefusedFor fault.OtherScenario v s t = ¬ IsSameButRing s t
IsRefusedFor fault.OldVersion v s t = (v ≡ version.First) × IsSameButRing s t
IsRefusedFor (fault.Memory _) v s t = ⊥
