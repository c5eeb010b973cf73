-- A model as a value, and the ranges of cost rates, policies and models.
use Rattle.std.specs.Prelude.{ℕ, ◌+◌, ◌-◌, ◌*◌, ◌/◌, ◌≤◌, ℤ, pos, ◌≤ℤ◌, Bool, List, [], Option, Some, None, is_some, All, ◌≡◌, ◌≢◌, true, length}
use Rattle.crn_cipher.specs.declared.TheConstants.{STREAM_WORDS}
use Rattle.crn_limits.specs.declared.TheConstants.{PERIOD_LIMIT, REPLICATION_LIMIT, POLICY_LIMIT}
use Rattle.crn_draw.specs.Spread.{Weighted}
use Rattle.crn_stock.specs.declared.limits.TheConstants.{ITEM_LIMIT, LEAD_LIMIT, LEVEL_LIMIT, SETUP_LIMIT, RATE_LIMIT}
use Rattle.crn_stock.specs.declared.model.Costs.{Costs}
use Rattle.crn_stock.specs.declared.policy.Policy.{Policy}
use Rattle.std.specs.List.{AllPairs}
use Rattle.crn_limits.specs.Limits.{IsRingSize}
use Rattle.crn_spelling.specs.Names.{is_name}

-- what the getters of a model answer
pub record ModelParts : Type 0 where
  pub periods : ℕ
  pub replications : ℕ
  pub initial : ℤ
  pub costs : Costs
  pub demand : Weighted
  pub lead : Weighted
  -- what customers return in a period, where they return anything
  pub returns : Option Weighted

-- the model of these parts
abbrev pub model_of : ℕ → ℕ → ℤ → Costs → Weighted → Weighted → Option Weighted → ModelParts
model_of periods replications initial costs demand lead returns = record {
  periods = periods;
  replications = replications;
  initial = initial;
  costs = costs;
  demand = demand;
  lead = lead;
  returns = returns;
}

-- whether customers return items
abbrev pub has_returns : ModelParts → Bool
has_returns m = is_some m.returns

-- the numbers of items that may be returned in a period
abbrev pub returned_values : Option Weighted → List ℕ
returned_values None = []
returned_values (Some w) = w.values

-- the cost rates of a model are within their ranges
pub record AreCosts (c : Costs) : Type 0 where
  pub setup : c.setup ≤ SETUP_LIMIT
  pub unit : c.unit ≤ RATE_LIMIT
  pub holding : c.holding ≤ RATE_LIMIT
  pub backlog : c.backlog ≤ RATE_LIMIT

-- an (s,S) policy of a scenario: s and S are within their range, and s is at most S
pub record IsPolicy (p : Policy) : Type 0 where
  pub low : pos 0 ≤ℤ p.low
  pub order : p.low ≤ℤ p.high
  pub high : p.high ≤ℤ LEVEL_LIMIT

-- all parts of a model are within their ranges
pub record IsModel (m : ModelParts) : Type 0 where
  pub periods_low : 1 ≤ m.periods
  pub periods_high : m.periods ≤ PERIOD_LIMIT
  pub replications_low : 1 ≤ m.replications
  pub replications_high : m.replications ≤ REPLICATION_LIMIT
  pub initial_low : pos 0 ≤ℤ m.initial
  pub initial_high : m.initial ≤ℤ LEVEL_LIMIT
  pub costs : AreCosts m.costs
  pub demand : All (λ v. v ≤ ITEM_LIMIT) m.demand.values
  pub lead_low : All (λ v. 1 ≤ v) m.lead.values
  pub lead_high : All (λ v. v ≤ LEAD_LIMIT) m.lead.values
  pub returns : All (λ v. v ≤ ITEM_LIMIT) (returned_values m.returns)

-- the blocks that the periods of one replication take, the last of them perhaps in part
abbrev pub blocks_per_replication : ℕ → ℕ
blocks_per_replication periods = (periods + (STREAM_WORDS - 1)) / STREAM_WORDS

-- the blocks of all replications
abbrev pub total : ModelParts → ℕ
total m = m.replications * blocks_per_replication m.periods

-- ---- A scenario as a value, and its ranges.

-- what the getters of a scenario answer
pub record ScenarioParts : Type 0 where
  pub key : List ℕ
  pub ring : ℕ
  pub model : ModelParts
  pub policies : List Policy

-- a ring size and policies of a scenario: at least one policy, within the limit, whose names have their form and are all different
pub record AreForScenario (ring : ℕ) (policies : List Policy) : Type 0 where
  pub size : IsRingSize ring
  pub some : 1 ≤ length policies
  pub few : length policies ≤ POLICY_LIMIT
  pub ranges : All IsPolicy policies
  pub names : All (λ p. is_name p.name ≡ true) policies
  pub differ : AllPairs (λ p q. p.name ≢ q.name) policies

-- two scenarios differ in their rings at most
pub record IsSameButRing (s s' : ScenarioParts) : Type 0 where
  pub key : s.key ≡ s'.key
  pub model : s.model ≡ s'.model
  pub policies : s.policies ≡ s'.policies
