-- What the first fault of a tree says: the numbers of the faults rise, so the first that holds is the least.
use Rattle.std.proofs.Common.{◌≡◌, ◌≢◌, ℕ, ◌<◌, ◌≤◌, Bool, true, false, List, [], ◌∷◌, ◌++◌, Some, None, refl, subst, sym, arith, lit<, IsErr, IsErrAnd}
use Rattle.std.proofs.lemmas.Bool.{false≢true}
use Rattle.std.proofs.lemmas.Bool.Decides.{nat_tests}
use Rattle.std.specs.Prelude.{⊤, Result, Ok, Err, IfErr, alloc_error}
use Rattle.toml.specs.Data.{Members}
use Rattle.crn_scenario.specs.Reading.{holds_at, faults, IsLeast, HasNone, scenario_fault_number, IsDocument, RefusesScenario}
use Rattle.crn_scenario.specs.Inner.Reading.{first_true}
use Rattle.crn_scenario.specs.declared.scenario_fault.ScenarioFault.{ScenarioFault}
use Rattle.crn_scenario.specs.declared.scenario_fault.ScenarioFault.TheVariants as fault

abbrev AreAbove : ℕ → List (ℕ × Bool) → Type 0
AreAbove n [] = ⊤
AreAbove n (p ∷ ps) = (n < p.0) × AreAbove p.0 ps

absent : (n j : ℕ) (ps : List (ℕ × Bool)) → AreAbove n ps → j ≤ n → holds_at j ps ≡ false
absent n j [] h le = refl
absent n j ((k, b) ∷ ps) h le = grind (arith, nat_tests, absent k j ps h.1 (omega arith), h.0)

none_at : (j : ℕ) (ps : List (ℕ × Bool)) → first_true ps ≡ None → holds_at j ps ≡ false
none_at j [] h = refl
none_at j ((k, true) ∷ ps) h = cc
none_at j ((k, false) ∷ ps) h = let more : holds_at j ps ≡ false = none_at j ps h in grind (arith, nat_tests, more)

first_at : (k : ℕ) (ps : List (ℕ × Bool)) → first_true ps ≡ Some k → holds_at k ps ≡ true
first_at k [] e = cc
first_at k ((m, true) ∷ ps) e = let same : m ≡ k = cc in grind (arith, nat_tests, same)
first_at k ((m, false) ∷ ps) e = let more : holds_at k ps ≡ true = first_at k ps e in grind (arith, nat_tests, more)

first_below : (n k : ℕ) (ps : List (ℕ × Bool)) → AreAbove n ps → first_true ps ≡ Some k → (j : ℕ) → j < k → holds_at j ps ≡ false
first_below n k [] h e j less = refl
first_below n k ((m, true) ∷ ps) h e j less =
    let same : m ≡ k = cc in
    let more : holds_at j ps ≡ false = absent m j ps h.1 (omega arith) in
    grind (arith, nat_tests, more, same)
first_below n k ((m, false) ∷ ps) h e j less = let more : holds_at j ps ≡ false = first_below m k ps h.1 e j less in grind (arith, nat_tests, more)

-- the first of two lists of faults, one after the other
pub first_of : (k : ℕ) (ps qs : List (ℕ × Bool)) → first_true ps ≡ Some k → first_true (ps ++ qs) ≡ Some k
first_of k [] qs e = cc
first_of k ((m, true) ∷ ps) qs e = e
first_of k ((m, false) ∷ ps) qs e = first_of k ps qs e

pub first_after : (ps qs : List (ℕ × Bool)) → first_true ps ≡ None → first_true (ps ++ qs) ≡ first_true qs
first_after [] qs e = refl
first_after ((m, true) ∷ ps) qs e = cc
first_after ((m, false) ∷ ps) qs e = first_after ps qs e

rising : (ms : Members) → AreAbove 0 (faults ms)
rising ms = (lit< tt, (lit< tt, (lit< tt, (lit< tt, (lit< tt, (lit< tt, (lit< tt, (lit< tt, (lit< tt, (lit< tt, (lit< tt, (lit< tt, tt))))))))))))

-- where there is none, no fault holds
pub no_fault : (ms : Members) → first_true (faults ms) ≡ None → HasNone ms
no_fault ms e = record { none = λ k h. false≢true (cc (none_at k (faults ms) e)) }

-- else it is the least that holds
least : (ms : Members) (k : ℕ) → first_true (faults ms) ≡ Some k → IsLeast ms k
least ms k e = record {
  holds = first_at k (faults ms) e;
  none_below = λ j less h. false≢true (cc (first_below 0 k (faults ms) (rising ms) e j less));
}

-- and it is what the document is refused for, want of memory aside
pub refused : (f : ScenarioFault) (bytes : List ℕ) (ms : Members) → IsDocument bytes ms → (f ≢ fault.Memory alloc_error → first_true (faults ms) ≡ Some (scenario_fault_number f)) → RefusesScenario f bytes
refused fault.NoDocument bytes ms d e = absurd (false≢true (first_at 1 (faults ms) (e (λ q. cc))))
refused (fault.Memory _) bytes ms d e = tt
refused f bytes ms d e = record { tree = ms; document = d; least = least ms (scenario_fault_number f) (e (λ q. cc)) }

-- what holds of an error holds of the answer that hands it on
pub handed_on : {T : Type 0} (r : Result T ScenarioFault) (e : ScenarioFault) (P : ScenarioFault → Type 0) → IsErr r × IsErrAnd r (λ f. f ≡ e) → P e → IfErr r P
handed_on (Ok x) e P h p = absurd (cc h.0)
handed_on (Err f) e P h p = subst P (sym h.1) p
