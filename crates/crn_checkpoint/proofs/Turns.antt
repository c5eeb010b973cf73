-- The rows of several policies, one policy after another.
use Rattle.std.proofs.Common.{◌≡◌, ℕ, zero, suc, ◌+◌, ◌<◌, true, List, [], ◌∷◌, ◌++◌, All, length, take, drop, refl, ap, ◌∙◌, subst, append_assoc, arith, length-append}
use Rattle.std.proofs.lemmas.List.Elements.{All-head, All-tail}
use Rattle.crn_stock.specs.declared.policy.Policy.{Policy}
use Rattle.crn_stock.specs.Parts.{Parts}
use Rattle.crn_stock.specs.Models.{ModelParts, IsPolicy}
use Rattle.crn_spelling.specs.Names.{is_name}
use Rattle.crn_checkpoint.specs.CheckpointText.{policy_rows, all_policy_rows}
use Rattle.crn_checkpoint.specs.Inner.Amounts.{IsRestorable, ArePoliciesOf}

-- the item at a place, and what stands before and after it
pub record IsAt {A : Type 0} (P : A → Type 0) (xs : List A) (i : ℕ) : Type 0 where
  pub item : A
  pub split : drop i xs ≡ item ∷ drop (i + 1) xs
  pub taken : take (i + 1) xs ≡ take i xs ++ item ∷ []
  pub holds : P item

module _ {A : Type 0} (P : A → Type 0) where
  at_place : (xs : List A) (i : ℕ) → i < length xs → All P xs → (x : A) × (drop i xs ≡ x ∷ drop (suc i) xs) × (take (suc i) xs ≡ take i xs ++ x ∷ []) × P x
  at_place [] i lt h = absurd (omega (arith, lt))
  at_place (x ∷ xs) zero lt h = (x, refl, refl, All-head P x xs h)
  at_place (x ∷ xs) (suc i) lt h =
      let (y, split, taken, holds) = at_place xs i (omega (arith, lt)) (All-tail P x xs h) in
      (y, split, ap (λ (l : List A). x ∷ l) taken, holds)

  pub item_at : (xs : List A) (i : ℕ) → i < length xs → All P xs → IsAt P xs i
  item_at xs i lt h =
      let (x, split, taken, holds) = at_place xs i lt h in
      let next : suc i ≡ i + 1 = omega arith in
      record {
        item = x;
        split = split ∙ ap (λ (n : ℕ). x ∷ drop n xs) next;
        taken = subst (λ (n : ℕ). take n xs ≡ take i xs ++ x ∷ []) next taken;
        holds = holds;
      }

-- the policy whose turn it is
pub record IsTurn (m : ModelParts) (n : ℕ) (ps : List Policy) (vs : List Parts) (rest rows : List (List (List ℕ))) (i : ℕ) : Type 0 where
  pub policy : Policy
  pub state : Parts
  pub levels : IsPolicy policy
  pub name : is_name policy.name ≡ true
  pub restorable : IsRestorable m n state
  pub rows_are : rows ≡ policy_rows policy state ++ (all_policy_rows (drop (i + 1) ps) (drop (i + 1) vs) ++ rest)
  pub policies_taken : take (i + 1) ps ≡ take i ps ++ policy ∷ []
  pub states_taken : take (i + 1) vs ≡ take i vs ++ state ∷ []

both : (ps : List Policy) (f : Policy → Type 0) (g : Policy → Type 0) → All f ps → All g ps → All (λ p. f p × g p) ps
both ps f g h k j d lt = (h j d lt, k j d lt)

pub turn_at : (m : ModelParts) (n : ℕ) (ps : List Policy) (vs : List Parts) (rest rows : List (List (List ℕ))) (i : ℕ) → ArePoliciesOf m n ps vs → i < length ps
    → rows ≡ all_policy_rows (drop i ps) (drop i vs) ++ rest → IsTurn m n ps vs rest rows i
turn_at m n ps vs rest rows i h lt e =
    let p = item_at (λ (q : Policy). IsPolicy q × (is_name q.name ≡ true)) ps i lt (both ps IsPolicy (λ (q : Policy). is_name q.name ≡ true) h.levels h.names) in
    let v = item_at (IsRestorable m n) vs i (rw h.count lt) h.restorable in
    record {
      policy = p.item;
      state = v.item;
      levels = p.holds.0;
      name = p.holds.1;
      restorable = v.holds;
      rows_are = e ∙ (λ j. all_policy_rows (p.split j) (v.split j) ++ rest) ∙ append_assoc (policy_rows p.item v.item) (all_policy_rows (drop (i + 1) ps) (drop (i + 1) vs)) rest;
      policies_taken = p.taken;
      states_taken = v.taken;
    }

pub same_count : {A B : Type 0} (xs xs' : List A) (ys ys' : List B) (x : A) (y : B) → xs' ≡ xs ++ x ∷ [] → ys' ≡ ys ++ y ∷ [] → length ys ≡ length xs → length ys' ≡ length xs'
same_count xs xs' ys ys' x y ex ey e = rw (ex, ey, length-append, length-append, e) refl
