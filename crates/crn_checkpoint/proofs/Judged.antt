-- What a refusal says of a text.
use Rattle.std.proofs.Common.{◌≡◌, ◌∙◌, ℕ, List, Ok, Err, Result, IfOk, IfErr, MatchResult, sym, subst, inl, inr, ◌⊎◌, IsErr, IsErrAnd, alloc_error}
use Rattle.crn_stock.specs.Parts.{Parts}
use Rattle.crn_stock.specs.Models.{ScenarioParts}
use Rattle.crn_checkpoint.specs.declared.version.Version.{Version}
use Rattle.crn_checkpoint.specs.declared.version.Version.TheVariants.{First, Second}
use Rattle.crn_checkpoint.specs.declared.fault.Unread.{Unread}
use Rattle.crn_checkpoint.specs.declared.fault.Unread.TheVariants as unread
use Rattle.crn_checkpoint.specs.declared.fault.CheckpointFault.{CheckpointFault}
use Rattle.crn_checkpoint.specs.declared.fault.CheckpointFault.TheVariants as fault
use Rattle.crn_checkpoint.specs.declared.fault.MigrateFault.{MigrateFault}
use Rattle.crn_checkpoint.specs.declared.fault.MigrateFault.TheVariants as migration
use Rattle.crn_checkpoint.specs.CheckpointText.{checkpoint_text}
use Rattle.crn_checkpoint.specs.Reading.{IsInRange, IsTextIn, IsTextOf, IsNoCheckpoint, RefusesCheckpoint}
use Rattle.crn_checkpoint.specs.Migration.{IsMigrated, RefusesMigration}
use Rattle.crn_checkpoint.specs.Faults.{reading_fault, migration_fault}
use Rattle.crn_checkpoint.specs.Inner.Judging.{IsRefusedFor}
use Rattle.crn_checkpoint.proofs.Rows.{any_text, text_of_same}

-- whatever checkpoint a text may be of, nothing is read of it only for memory
abbrev pub ReadsUnlessMemory : Unread → List ℕ → Type 0
ReadsUnlessMemory u bytes = (v : Version) (s : ScenarioParts) (next : ℕ) (states : List Parts) → IsTextIn v s next states bytes → u ≡ unread.Memory alloc_error

no_checkpoint : (u : Unread) (bytes : List ℕ) → u ≡ unread.NoCheckpoint → ReadsUnlessMemory u bytes → IsNoCheckpoint bytes
no_checkpoint u bytes is reads s next states text = elim text [
  | inl new ↦ cc (sym is ∙ reads Second s next states new)
  | inr old ↦ cc (sym is ∙ reads First s next states old)
]

pub reading_refuses : (u : Unread) (s : ScenarioParts) (bytes : List ℕ) → ReadsUnlessMemory u bytes → RefusesCheckpoint s (reading_fault u) bytes
reading_refuses unread.NoCheckpoint s bytes reads = no_checkpoint unread.NoCheckpoint bytes (λ _. unread.NoCheckpoint) reads
reading_refuses (unread.Memory _) s bytes reads = tt

pub migration_refuses : (u : Unread) (bytes : List ℕ) → ReadsUnlessMemory u bytes → RefusesMigration (migration_fault u) bytes
migration_refuses unread.NoCheckpoint bytes reads = no_checkpoint unread.NoCheckpoint bytes (λ _. unread.NoCheckpoint) reads
migration_refuses (unread.Memory _) bytes reads = tt

-- a checkpoint that was read is refused for its scenario or its version
pub refuses : (f : CheckpointFault) (v : Version) (s t : ScenarioParts) (next : ℕ) (states : List Parts) (bytes : List ℕ) → IsRefusedFor f v s t → s.ring ≡ t.ring → IsTextIn v s next states bytes → RefusesCheckpoint t f bytes
refuses fault.NoCheckpoint v s t next states bytes h ring text = absurd h
refuses fault.OtherScenario v s t next states bytes h ring text = record { scenario = s; next = next; states = states; is_text = any_text v s next states bytes text; differs = h }
refuses fault.OldVersion v s t next states bytes h ring text = record { next = next; states = states; is_text = text_of_same v First s t next states bytes h.0 ring h.1 text }
refuses (fault.Memory _) v s t next states bytes h ring text = absurd h

-- what is told of bytes that a checkpoint's text differs from
pub told : {T : Type 0} (r : Result T Unread) (e : Unread) (P : T → Type 0) → IsErr r × IsErrAnd r (λ f. f ≡ e) → ¬ (e ≡ unread.NoCheckpoint) → MatchResult r P (λ f. f ≡ unread.Memory alloc_error)
told (Ok x) e P h other = absurd (cc h.0)
told (Err f) unread.NoCheckpoint P h other = absurd (other (λ _. unread.NoCheckpoint))
told (Err f) (unread.Memory _) P h other = h.1

-- what holds of a fault holds of a result that hands it on
pub handed : {T E : Type 0} (r : Result T E) (e : E) (P : E → Type 0) → IsErr r × IsErrAnd r (λ f. f ≡ e) → P e → IfErr r P
handed (Ok x) e P h holds = absurd (cc h.0)
handed (Err f) e P h holds = subst P (sym h.1) holds

module _ {T : Type 0} (items : T → List ℕ) where
  -- what a checkpoint becomes that was read in the first version
  pub old_text : (r : Result T MigrateFault) (s t : ScenarioParts) (next n : ℕ) (states vs : List Parts) → IsInRange s next states → checkpoint_text Second s next states ≡ checkpoint_text Second t n vs
      → MatchResult r (λ text. items text ≡ checkpoint_text Second t n vs) (λ f. f ≡ migration.Memory alloc_error) → MatchResult r (λ text. IsTextOf s next states (items text)) (λ f. f ≡ migration.Memory alloc_error)
  old_text (Ok text) s t next n states vs ranges same is = record { ranges = ranges; tells = λ e. absurd (cc e); text_is = is ∙ sym same }
  old_text (Err f) s t next n states vs ranges same is = is

  -- one that was read in the second is refused
  pub new_text : (r : Result T MigrateFault) → MatchResult r (λ text. ⊥) (λ f. f ≡ migration.NewVersion) → MatchResult r (λ text. ⊥) (λ f. (f ≡ migration.NewVersion) ⊎ (f ≡ migration.Memory alloc_error))
  new_text (Ok text) h = h
  new_text (Err f) h = inl h

  pub migrated : (r : Result T MigrateFault) (v : Version) (s : ScenarioParts) (next : ℕ) (states : List Parts) (bytes : List ℕ) → IsTextIn v s next states bytes
      → (v ≡ First → MatchResult r (λ t. items t ≡ checkpoint_text Second s next states) (λ f. f ≡ migration.Memory alloc_error)) → (v ≡ Second → MatchResult r (λ t. ⊥) (λ f. f ≡ migration.NewVersion))
      → IfOk r (λ t. IsMigrated bytes (items t))
  migrated (Ok t) First s next states bytes h old new =
      record { scenario = s; next = next; states = states; old = h; new = record { ranges = h.ranges; tells = λ e. absurd (cc e); text_is = old (λ _. First) } }
  migrated (Ok t) Second s next states bytes h old new = absurd (new (λ _. Second))
  migrated (Err f) v s next states bytes h old new = tt

  pub not_migrated : (r : Result T MigrateFault) (v : Version) (s : ScenarioParts) (next : ℕ) (states : List Parts) (bytes : List ℕ) → IsTextIn v s next states bytes
      → (v ≡ First → MatchResult r (λ t. items t ≡ checkpoint_text Second s next states) (λ f. f ≡ migration.Memory alloc_error)) → (v ≡ Second → MatchResult r (λ t. ⊥) (λ f. f ≡ migration.NewVersion))
      → IfErr r (λ f. RefusesMigration f bytes)
  not_migrated (Ok t) v s next states bytes h old new = tt
  not_migrated (Err f) First s next states bytes h old new = subst (λ (g : MigrateFault). RefusesMigration g bytes) (sym (old (λ _. First))) tt
  not_migrated (Err f) Second s next states bytes h old new =
      subst (λ (g : MigrateFault). RefusesMigration g bytes) (sym (new (λ _. Second))) (record { scenario = s; next = next; states = states; is_text = h })
