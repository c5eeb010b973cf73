-- What is refused of two lists of costs, and the numbers of the faults.
use Rattle.std.specs.Prelude.{◌≡◌, ℕ, ◌≤◌, List, All, ◌&&◌, not, if◌then◌else◌, Option, Some, None, length, nat_eq, nat_le}
use Rattle.crn_limits.specs.declared.TheConstants.{REPLICATION_LIMIT}
use Rattle.crn_pair.specs.declared.fault.PairFault.{PairFault}
use Rattle.crn_pair.specs.declared.fault.PairFault.TheVariants.{Lengths, Empty, TooMany, Entry}
use Rattle.crn_pair.specs.Limits.{are_costs}
use Rattle.crn_pair.specs.declared.compare.TheConstants.{COST_LIMIT}

-- the fault of the least number that two lists of costs have
abbrev pub least_costs_fault : List ℕ → List ℕ → Option PairFault
least_costs_fault a b =
    if not (nat_eq (length a) (length b)) then Some Lengths
    else if nat_eq (length a) 0 then Some Empty
    else if not (nat_le (length a) REPLICATION_LIMIT) then Some TooMany
    else if not (are_costs a && are_costs b) then Some Entry
    else None

-- costs that can be compared, replication by replication. `laws::without_fault` says that they are those that have no fault
pub record AreComparable (a b : List ℕ) : Type 0 where
  pub each : length a ≡ length b
  pub some : 1 ≤ length a
  pub few : length a ≤ REPLICATION_LIMIT
  pub first : All (λ k. k ≤ COST_LIMIT) a
  pub second : All (λ k. k ≤ COST_LIMIT) b

-- the number by which a fault is told
abbrev pub costs_fault_number : PairFault → ℕ
costs_fault_number Lengths = 1
costs_fault_number Empty = 2
costs_fault_number TooMany = 3
costs_fault_number Entry = 4
