use Rattle.std.proofs.Common.{◌≡◌, ◌<◌, rules, List, length, refl, arith}
use Rattle.crn_stock.specs.Models.{total}
use Rattle.crn_run.specs.Gates.{AllPassed, SomeHeld}
use Rattle.uses.specs.Budgets.{Spends}
use Rattle.uses.specs.declared.checkpoint.Budget.{Budget}
use Rattle.uses.proofs.Budgets.{none_stopped, one_stopped}
use Rattle.uses.proofs.checkpoint.stop_of.Goals as goal

pub returns-then-branch : goal.returns-then-branch
returns-then-branch g c =
    let s = c.args.scenario.now in
    let gates : List Budget = c.in_ok-gates.gates.items in
    let held : SomeHeld (λ (b : Budget). b.has_refused) Spends c.args.start.now.next (total s.model) gates = search rules in
    omega (arith, one_stopped (λ (b : Budget). b.has_refused) c.args.blocks (total s.model) c.args.start.now.next (total s.model) gates c.requires.start.0 refl c.in_ok-gates.ensures.left held)

pub returns : goal.returns
returns g c =
    let s = c.args.scenario.now in
    let gates : List Budget = c.in_ok-gates.gates.items in
    let count : length gates ≡ length s.policies = search rules in
    let policies : 0 < length s.policies = search rules in
    let passed : AllPassed (λ (b : Budget). b.has_refused) Spends c.args.start.now.next (total s.model) gates = search rules in
    let upto : c.total.result ≡ total s.model = search rules in
    omega (arith, upto, none_stopped (λ (b : Budget). b.has_refused) c.args.blocks (total s.model) c.args.start.now.next (total s.model) gates c.requires.start.0 refl c.in_ok-gates.ensures.left (omega (arith, count, policies)) passed)
