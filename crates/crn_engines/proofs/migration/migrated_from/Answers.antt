use Rattle.std.proofs.Common.{ℕ, List, subst}
use Rattle.crn_checkpoint.specs.Migration.{IsMigrated}
use Rattle.crn_engines.specs.Commands.{MigratesLegs}
use Rattle.crn_engines.specs.Inner.Refusals.{RefusesOldText}
use Rattle.crn_engines.proofs.Refused.{of_each, old_of_migrate, old_silent}
use Rattle.crn_engines.proofs.Sent.{both_ok}
use Rattle.crn_engines.proofs.migration.migrated_from.Goals as goal

pub returns-clause-made : goal.returns-clause-made
returns-clause-made g c =
    both_ok c.migrated_text.result _ _ _ (λ text migrated legs. record {
      input = c.in_ok-bytes.bytes.items;
      read = c.in_ok-bytes.ensures.all;
      answer = subst (λ (b : List ℕ). IsMigrated b text.items) c.as_slice.ensures.value migrated;
      legs = subst (λ (b : List ℕ). MigratesLegs b text.items) c.as_slice.ensures.value legs;
    }) c.migrated_text.ensures.migrated c.migrated_text.ensures.legs

pub returns-clause-refused : goal.returns-clause-refused
returns-clause-refused g c =
    of_each c.migrated_text.result _ _ (λ e h. old_of_migrate e _ _ c.in_ok-bytes.bytes.items c.in_ok-bytes.ensures.all (subst (RefusesOldText e) c.as_slice.ensures.value h)) c.migrated_text.ensures.refused

pub returns-clause-silent : goal.returns-clause-silent
returns-clause-silent g c = of_each c.migrated_text.result _ _ (λ e. old_silent e c.as_slice.result.now) c.migrated_text.ensures.refused
