-- Periods of lanes one after another, and the blocks that they make up.
use Rattle.std.proofs.Common.{◌≡◌, ℕ, suc, ◌+◌, ◌-◌, ◌<◌, ◌≤◌, ℤ, pos, ◌≤ℤ◌, min, sum, Bool, false, [], ◌∷◌, ◌++◌, length, sym, ap, subst, ◌∙◌, arith, inl, inr, refl}
use Rattle.std.proofs.lemmas.Int.{ints}
use Rattle.std.proofs.lemmas.Bool.{cases_eq}
use Rattle.crn_stock.specs.Parts.{Parts}
use Rattle.crn_stock.specs.Models.{ModelParts}
use Rattle.crn_stock.specs.Stock.{Draw, Terms, HasTaken, CanTake}
use Rattle.crn_stock.specs.Inner.Steps.{after_period, after_periods, after_last_period, drawn_from, HaveLeads}
use Rattle.crn_stock.specs.declared.model.Costs.{Costs}
use Rattle.crn_stock.proofs.Steps.{limit_least, closed, run_to_end}
use Rattle.crn_stock.specs.declared.limits.TheConstants.{LEVEL_LIMIT}
use Rattle.crn_stock.proofs.Blocks.{block_run}
use Rattle.crn_cipher.specs.declared.stream.Block.{Block}
use Rattle.crn_lanes.specs.declared.drawn.Drawn.{Drawn}
use Rattle.crn_lanes.specs.declared.lanes.Levels.{Levels}
use Rattle.crn_lanes.specs.declared.lanes.Lanes.{Lanes}
use Rattle.crn_lanes.specs.Inner.Lanes.{terms_at, IsLane, IsFresh, with_lane, draw_in, HasRunOne, HaveRun}

module _ (l : Levels) (c : Costs) (f : ℕ → Draw) (b : Bool) (t : ℕ) (x : Lanes) where
  pub have_none : ((k : ℕ) → k < 16 → IsLane b t x k) → HaveRun l c f b t 0 x x
  have_none lanes =
      let same : t ≡ t + 0 = omega arith in record {
        kept = λ k lt. subst (λ (u : ℕ). IsLane b u x k) same (lanes k lt);
        moved = λ k lt v. ap (λ (u : ℕ). with_lane v u x k) (sym same);
        leads = λ j lt. absurd (omega (arith, lt));
      }

  -- one period more
  pub have_more : (n : ℕ) (y z : Lanes) (d : Drawn) → HaveRun l c f b t n x y → draw_in d ≡ f n → (b ≡ false → d.returned ≡ 0) → ((k : ℕ) → k < 16 → HasRunOne l c (t + n) d y z k) → HaveRun l c f b t (n + 1) x z
  have_more n y z d h is none one =
      let time : t + n + 1 ≡ t + (n + 1) = omega arith in
      let more : suc n ≡ n + 1 = omega arith in
      let lead : d.lead ≡ (f n).lead = ap (λ (q : Draw). q.lead) is in record {
        kept = λ k lt. subst (λ (u : ℕ). IsLane b u z k) time ((one k lt).kept b none (h.kept k lt));
        moved = λ k lt v.
            let both : after_period (terms_at l c k) (draw_in d) (with_lane v (t + n) y k) ≡ after_periods (terms_at l c k) f (suc n) (with_lane v t x k) = λ i. after_period (terms_at l c k) (is i) (h.moved k lt v i) in
            ap (λ (u : ℕ). with_lane v u z k) (sym time) ∙ (one k lt).moved v ∙ both ∙ ap (λ (j : ℕ). after_periods (terms_at l c k) f j (with_lane v t x k)) more;
        leads = λ j lt. elim (cases_eq j n) [
          | inl same ↦
              let here : (f j).lead ≡ d.lead = ap (λ (i : ℕ). (f i).lead) same ∙ sym lead in
              (omega (arith, here, d.lead_low), omega (arith, here, d.lead_high))
          | inr other ↦ h.leads j (omega (arith, lt, other))
        ];
      }

-- fresh lanes are those after a replication's last period
pub fresh_is : (v w : Parts) (x : Lanes) (k : ℕ) → v.periods ≡ w.periods → v.replications ≡ w.replications → v.initial ≡ w.initial → v.has_returns ≡ w.has_returns
    → v.costs ≡ w.costs ++ w.running ∷ [] → IsFresh w.initial x k → with_lane v 0 x k ≡ after_last_period w
fresh_is v w x k ep er ei eh ec fresh = rw (ep, er, ei, eh, ec, fresh.stock_is, fresh.due_is, fresh.running_is) refl

-- the periods of a block have taken a state by the block, where w is what they have made of it, and the replication's end is seen to
pub taken_by : (m : ModelParts) (p : Terms) (block : Block) (n : ℕ) (old w new : Parts) → CanTake m block old → length old.due ≡ 32 → 0 < n → n ≤ 4 → old.period + n ≤ old.periods
    → (old.period + n < old.periods → n ≡ 4) → HaveLeads (drawn_from m block) n → w ≡ after_periods p (drawn_from m block) n old → new ≡ closed w → HasTaken m p block old new
taken_by m p block n old w new can long some few inside all leads is closed-is =
    subst (HasTaken m p block old) (sym (closed-is ∙ run_to_end p (drawn_from m block) n old w some inside is))
    (block_run m p block n old can long some few inside all leads)

-- the periods that a block still has in a replication
pub few : (n periods t : ℕ) → n ≡ min 4 (periods - t) → t < periods → (0 < n) × (n ≤ 4) × (t + n ≤ periods) × (t + n < periods → n ≡ 4)
few n periods t is lt = (omega (arith, is, lt), omega (arith, is), omega (arith, is, lt), λ less. omega (arith, is, lt, less))

-- fresh lanes are within their ranges
pub fresh_lane : (initial : ℤ) (b : Bool) (x : Lanes) (k : ℕ) → pos 0 ≤ℤ initial → initial ≤ℤ LEVEL_LIMIT → IsFresh initial x k → IsLane b 0 x k
fresh_lane initial b x k low high fresh = record {
  length_is = ap length fresh.due_is;
  position_is = omega (arith, ints, fresh.stock_is, fresh.position_is, ap sum fresh.due_is);
  stock_low = omega (arith, ints, fresh.stock_is, low);
  position_low = omega (arith, ints, fresh.position_is, low);
  position_high = omega (arith, ints, fresh.position_is, high, limit_least b 0);
  running_high = omega (arith, fresh.running_is);
}

pub fresh_of : (z initial : ℤ) (x : Lanes) → z ≡ initial → ((k : ℕ) → k < 16 → IsFresh z x k) → (k : ℕ) → k < 16 → IsFresh initial x k
fresh_of z initial x same each k lt = subst (λ (i : ℤ). IsFresh i x k) same (each k lt)
