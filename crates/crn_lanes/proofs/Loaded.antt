-- States as lanes, and lanes as states.
use Rattle.std.proofs.Common.{◌≡◌, ℕ, ◌+◌, ◌*◌, ◌/◌, ◌%◌, ◌<◌, ◌≤◌, ℤ, Bool, List, length, length-append, length-drop, sum, drop, take, refl, sym, ap, subst, ◌∙◌, arith, length-take}
use Rattle.std.proofs.lemmas.Int.{ints}
use Rattle.std.proofs.lemmas.Nat.{div-mul-add, mod-mul-add}
use Rattle.crn_cipher.specs.declared.TheConstants.{STREAM_WORDS}
use Rattle.crn_stock.specs.Parts.{Parts, AreInRange, CanRestore, restored, rotated, first_period}
use Rattle.crn_stock.specs.Models.{ModelParts, ScenarioParts, blocks_per_replication, total}
use Rattle.crn_stock.specs.Stock.{next_block, IsOf}
use Rattle.crn_stock.proofs.Steps.{sum-rotated}
use Rattle.crn_stock.proofs.Due.{length-rotated}
use Rattle.crn_sequential.specs.Runs.{StandsBefore}
use Rattle.crn_stock.specs.declared.policy.Policy.{Policy}
use Rattle.crn_lanes.specs.declared.lanes.Lanes.{Lanes}
use Rattle.crn_lanes.specs.declared.group.Group.{Group}
use Rattle.crn_lanes.specs.Inner.Lanes.{due_at, IsLane, with_lane}
use Rattle.crn_lanes.specs.Inner.Groups.{with_costs, lane, IsGroup, IsInLimits, IsLoaded, AreRun}

-- a quotient and a remainder are the only ones
divided : (n b q r : ℕ) → r < b → n ≡ q * b + r → (n / b ≡ q) × (n % b ≡ r)
divided n b q r lt is = (rw is (div-mul-add q b r lt), rw is (mod-mul-add q b r lt))

-- where a state stands before block n
pub place_of : (m : ModelParts) (n : ℕ) (v : Parts) → StandsBefore m n v → v.period < v.periods → (v.period ≡ first_period m n) × (length v.costs ≡ n / blocks_per_replication m.periods)
place_of m n v stands lt =
    let b = blocks_per_replication m.periods in
    let same : v.periods ≡ m.periods = stands.of_model.periods_are in
    let rows : length v.costs * blocks_per_replication v.periods ≡ length v.costs * b = ap (λ (p : ℕ). length v.costs * blocks_per_replication p) same in
    let between : v.period % STREAM_WORDS ≡ 0 = stands.between in
    let at = divided n b (length v.costs) (v.period / STREAM_WORDS) (omega (arith, same, lt)) (omega (arith, sym stands.next, rows, between)) in
    (omega (arith, between, at.1), sym at.0)

long-rotated : (l : List ℕ) (i : ℕ) → length (rotated l i) ≡ length l
long-rotated l i = omega (arith, length-append (drop i l) (take i l), length-drop i l, length-take i l)

-- a loaded lane is within its ranges
pub loaded_lane : (b : Bool) (t : ℕ) (x : Lanes) (k : ℕ) (v : Parts) → IsInLimits v → v.period ≡ t → v.has_returns ≡ b → IsLoaded (t % 32) x k v → IsLane b t x k
loaded_lane b t x k v limits at has is =
    let r = limits.range in
    let all : sum (due_at x k) ≡ sum v.due = sym (sum-rotated (due_at x k) (t % 32)) ∙ ap sum is.due_is in
    subst (λ (h : Bool). IsLane h t x k) has
    (subst (λ (u : ℕ). IsLane v.has_returns u x k) at
    (record {
      length_is = sym (long-rotated (due_at x k) (t % 32)) ∙ ap length is.due_is ∙ r.due_length;
      position_is = omega (arith, ints, is.position_is, is.stock_is, all);
      stock_low = omega (arith, ints, is.stock_is, r.stock_low);
      position_low = omega (arith, ints, is.position_is, r.position_low);
      position_high = omega (arith, ints, is.position_is, r.position_high);
      running_high = omega (arith, is.running_is, r.running_high);
    }))

-- and it has the state's parts
pub loaded_is : (m : ModelParts) (t : ℕ) (x : Lanes) (k : ℕ) (costs : List ℕ) (v : Parts) → IsOf m v → v.period ≡ t → costs ≡ v.costs → IsLoaded (t % 32) x k v → with_lane (with_costs m costs) t x k ≡ v
loaded_is m t x k costs v of at same is =
    rw (is.due_is, is.stock_is, is.running_is, same, ← of.periods_are, ← of.replications_are, ← of.initial_is, ← of.has_returns_is, ← at) refl

-- a group's lane stands before its next block
pub lane_stands : (m : ModelParts) (g : Group) (k n : ℕ) → IsGroup m g → next_block (lane m g k) ≡ n → StandsBefore m n (lane m g k)
lane_stands m g k n group next = record {
  of_model = record { periods_are = refl; replications_are = refl; initial_is = refl; has_returns_is = refl };
  between = group.between;
  next = next;
}

-- a lane can be restored
pub lane_restores : (m : ModelParts) (g : Group) (k n : ℕ) → IsGroup m g → k < 16 → next_block (lane m g k) ≡ n → n ≤ total m
    → CanRestore m n (lane m g k).stock (lane m g k).due (lane m g k).running (lane m g k).costs
lane_restores m g k n group lt next below =
    let v = lane m g k in
    let i = group.lanes k lt in
    let place = place_of m n v (lane_stands m g k n group next) group.period_high in
    let all : sum v.due ≡ sum (due_at g.lanes k) = sum-rotated (due_at g.lanes k) (g.period % 32) in
    let range : AreInRange v = record {
      period_high = group.period_high;
      stock_low = i.stock_low;
      stock_high = omega (arith, ints, i.position_is, i.position_high);
      due_length = length-rotated (due_at g.lanes k) (g.period % 32) i.length_is (omega arith);
      position_low = omega (arith, ints, all, i.position_is, i.position_low);
      position_high = omega (arith, ints, all, i.position_is, i.position_high);
      running_high = i.running_high;
      costs_high = group.costs k lt;
      fresh_stock = λ e. group.fresh_stock e k lt;
      fresh_due = λ e. all ∙ group.fresh_due e k lt;
    } in
    let same : v ≡ restored m n v.stock v.due v.running v.costs = λ j. record v { period = place.0 j } in
    record {
      number = below;
      count = place.1;
      ranges = subst AreInRange same range;
    }

-- the same of equal amounts
pub restores_as : (m : ModelParts) (n : ℕ) (v : Parts) (stock : ℤ) (due : List ℕ) (running : ℕ) (costs : List ℕ) → stock ≡ v.stock → due ≡ v.due → running ≡ v.running → costs ≡ v.costs
    → CanRestore m n v.stock v.due v.running v.costs → CanRestore m n stock due running costs
restores_as m n v stock due running costs es ed er ec can = rw (es, ed, er, ec) can

-- what is run of parts that equal a scenario's is run of the scenario
pub as_run : (s : ScenarioParts) (start : List Parts) (upto : ℕ) (m : ModelParts) (key : List ℕ) (ps : List Policy) (from after : List Parts)
    → m ≡ s.model → key ≡ s.key → ps ≡ s.policies → from ≡ start → AreRun m key ps from upto after → AreRun s.model s.key s.policies start upto after
as_run s start upto m key ps from after em ek ep ef run = rw (← ef, ← ep, ← ek, ← em) run
