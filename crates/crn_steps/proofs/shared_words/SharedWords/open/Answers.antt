use Rattle.std.proofs.Common.{rules, ℕ, List, [], sym, ◌∙◌, subst}
use Rattle.atomic_table.specs.Table.{opening}
use Rattle.crn_steps.specs.Holds.{Holds, opened}
use Rattle.crn_steps.proofs.Beginning.{power_positive, begins}
use Rattle.crn_steps.proofs.shared_words.SharedWords.open.Goals as goal

pub of_words-requires : goal.of_words-requires
of_words-requires c = subst (λ (ws : List ℕ). Holds c.args.spec (opening ws [] (opened c.args.spec 0))) (sym (c.as_slice.ensures.value ∙ c.in_ok-words.ensures.words))
    (begins c.args.spec record { has_slots = power_positive c.args.spec.size (search rules); in_order = search rules; total_below = search rules })
