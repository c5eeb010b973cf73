use Rattle.std.proofs.Common.{rules, ◌≡◌, ◌∙◌, [], ◌∷◌}
use Rattle.crn_cipher.proofs.Inverse.{state_from}
use Rattle.uses.proofs.Undone.{counter_of_words}
use Rattle.uses.proofs.blocks.block_with.Goals as goal

pub returns-in_default-clause-none : goal.returns-in_default-clause-none
returns-in_default-clause-none c = λ n lt is.
    let same : c.unthreefry.result ≡ n ∷ 0 ∷ 0 ∷ 0 ∷ [] =
    c.unthreefry.ensures.counter ∙ counter_of_words c.args.key c.args.demand n (state_from c.args.key (search rules) (search rules)) lt is in
    search (rules, same)

pub returns-in_default-2-clause-none : goal.returns-in_default-2-clause-none
returns-in_default-2-clause-none c = λ n lt is.
    let same : c.unthreefry.result ≡ n ∷ 0 ∷ 0 ∷ 0 ∷ [] =
    c.unthreefry.ensures.counter ∙ counter_of_words c.args.key c.args.demand n (state_from c.args.key (search rules) (search rules)) lt is in
    search (rules, same)

pub returns-in_default-3-clause-none : goal.returns-in_default-3-clause-none
returns-in_default-3-clause-none c = λ n lt is.
    let same : c.unthreefry.result ≡ n ∷ 0 ∷ 0 ∷ 0 ∷ [] =
    c.unthreefry.ensures.counter ∙ counter_of_words c.args.key c.args.demand n (state_from c.args.key (search rules) (search rules)) lt is in
    search (rules, same)
