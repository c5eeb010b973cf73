-- For a ring of threads: the parts that stand in the views of a table's seats. A view has a list of parts, one for a seat of one actor, and all of them for the first seat.
use Rattle.std.proofs.Common.{◌≡◌, ℕ, suc, zero, ◌+◌, ◌<◌, ◌≤◌, cond, eqb, List, [], ◌∷◌, ◌++◌, length, set, Some, inl, inr, refl, sym, ap, ◌∙◌, arith, zero-add, slice_get, flat_map, append-nil}
use Rattle.std.proofs.lemmas.Bool.{eq-eqb, cases_order}
use Rattle.std.proofs.lemmas.Grind.{flat_map-append}
use Rattle.crn_proto.specs.Views.{is_of, parts_named, Rule}
use Rattle.crn_proto.specs.declared.spec.RingSpec.{RingSpec}
use Rattle.crn_proto.specs.Lawful.{Part, PartLaw, own_cursor, Apart}
use Rattle.crn_proto.proofs.Parts.{Moved, lawful_moved}

-- ---- how many parts an actor has

pub parts_append : (a : ℕ) (xs ys : List Part) → parts_named a (xs ++ ys) ≡ parts_named a xs + parts_named a ys
parts_append a [] ys = sym (zero-add (parts_named a ys))
parts_append a (x ∷ xs) ys = let more = parts_append a xs ys in omega arith

parts_cons : (a : ℕ) (x : Part) (xs : List Part) → parts_named a (x ∷ xs) ≡ is_of a x + parts_named a xs
parts_cons a x xs = refl

is_one : (a : ℕ) (part : Part) → own_cursor part ≡ a → is_of a part ≡ 1
is_one a part e = rw (eq-eqb (own_cursor part) a e) refl

pub counted : (parts : List Part) (k a : ℕ) (part : Part) → slice_get parts k ≡ Some part → own_cursor part ≡ a → 1 ≤ parts_named a parts
counted [] k a part h e = cc
counted (x ∷ xs) zero a part h e = let same : x ≡ part = cc in let one = is_one a x (ap own_cursor same ∙ e) in rw parts_cons (omega arith)
counted (x ∷ xs) (suc k) a part h e = let more = counted xs k a part h e in rw parts_cons (omega arith)

counted_twice : (parts : List Part) (j k a : ℕ) (p q : Part) → slice_get parts j ≡ Some p → slice_get parts k ≡ Some q → own_cursor p ≡ a → own_cursor q ≡ a → j < k → 2 ≤ parts_named a parts
counted_twice [] j k a p q h l e f less = cc
counted_twice (x ∷ xs) zero (suc k) a p q h l e f less =
    let same : x ≡ p = cc in let one = is_one a x (ap own_cursor same ∙ e) in let more = counted xs k a q l f in rw parts_cons (omega arith)
counted_twice (x ∷ xs) (suc j) (suc k) a p q h l e f less = let more = counted_twice xs j k a p q h l e f (omega arith) in rw parts_cons (omega arith)
counted_twice (x ∷ xs) j k a p q h l e f less = absurd (omega arith)

-- parts of which no actor has two are apart
pub apart_from_counts : (parts : List Part) → ((a : ℕ) → parts_named a parts ≤ 1) → Apart parts
apart_from_counts parts few j k p q at bt e = elim (cases_order j k) [
  | inl same ↦ same
  | inr other ↦ elim other [
    | inl less ↦ let two = counted_twice parts j k (own_cursor q) p q at bt e refl less in let one = few (own_cursor q) in absurd (omega arith)
    | inr more ↦ let two = counted_twice parts k j (own_cursor q) q p bt at refl e more in let one = few (own_cursor q) in absurd (omega arith)
  ]
]

counts_after_set : (parts : List Part) (k a : ℕ) (before after : Part) → slice_get parts k ≡ Some before → own_cursor after ≡ own_cursor before → parts_named a (set parts k after) ≡ parts_named a parts
counts_after_set [] k a before after at same = refl
counts_after_set (x ∷ xs) zero a before after at same = let e : x ≡ before = cc in let f : own_cursor after ≡ own_cursor x = same ∙ ap own_cursor (sym e) in rw (parts_cons, parts_cons) (ap (λ c. cond (eqb c a) 1 0 + parts_named a xs) f)
counts_after_set (x ∷ xs) (suc k) a before after at same = let more = counts_after_set xs k a before after at same in rw (parts_cons, more) (sym (parts_cons a x xs))

-- ---- the parts in views

module _ {X : Type 0} (f : X → List Part) where
  at_append : (xs ys : List Part) (k : ℕ) → slice_get (xs ++ ys) (length xs + k) ≡ slice_get ys k
  at_append [] ys k = let e : 0 + k ≡ k = omega arith in rw e refl
  at_append (x ∷ xs) ys k = let e : suc (length xs) + k ≡ suc (length xs + k) = omega arith in rw e (at_append xs ys k)

  set_append : (xs ys : List Part) (k : ℕ) (v : Part) → set (xs ++ ys) (length xs + k) v ≡ xs ++ set ys k v
  set_append [] ys k v = let e : 0 + k ≡ k = omega arith in rw e refl
  set_append (x ∷ xs) ys k v = let e : suc (length xs) + k ≡ suc (length xs + k) = omega arith in rw e (ap (λ zs. x ∷ zs) (set_append xs ys k v))

  -- a seat of one actor: where its part is among all, and what a new view of it does to them
  pub view_part : (views : List X) (id : ℕ) (v : X) (part : Part) → slice_get views id ≡ Some v → f v ≡ part ∷ []
      → (k : ℕ) × (slice_get (flat_map f views) k ≡ Some part) × ((w : X) (after : Part) → f w ≡ after ∷ [] → flat_map f (set views id w) ≡ set (flat_map f views) k after)
  view_part [] id v part h e = cc
  view_part (x ∷ xs) zero v part h e =
      let same : x ≡ v = cc in
      (0, rw (same, e) refl, λ w after is. rw (is, same, e) refl)
  view_part (x ∷ xs) (suc id) v part h e =
      let (k, at, sets) = view_part xs id v part h e in
      (length (f x) + k, at_append (f x) (flat_map f xs) k ∙ at, λ w after is. ap (λ zs. f x ++ zs) (sets w after is) ∙ sym (set_append (f x) (flat_map f xs) k after))

  -- a view that is cut in two
  cut_counts : (views : List X) (id a : ℕ) (v left right : X) → slice_get views id ≡ Some v → f v ≡ f right ++ f left
      → parts_named a (flat_map f (set views id left)) + parts_named a (f right) ≡ parts_named a (flat_map f views)
  cut_counts [] id a v left right h e = cc
  cut_counts (x ∷ xs) zero a v left right h e =
      let same : x ≡ v = cc in
      rw (same, e) (simp parts_append (omega arith))
  cut_counts (x ∷ xs) (suc id) a v left right h e =
      let more = cut_counts xs id a v left right h e in
      simp parts_append (omega arith)

  abbrev pub Each : (Part → Type 0) → List Part → Type 0
  Each P parts = (k : ℕ) (part : Part) → slice_get parts k ≡ Some part → P part

  each_left : (P : Part → Type 0) (xs ys : List Part) → Each P (xs ++ ys) → Each P xs
  each_left P [] ys all k part h = cc
  each_left P (x ∷ xs) ys all zero part h = all 0 part h
  each_left P (x ∷ xs) ys all (suc k) part h = each_left P xs ys (λ j. all (suc j)) k part h

  each_right : (P : Part → Type 0) (xs ys : List Part) → Each P (xs ++ ys) → Each P ys
  each_right P [] ys all = all
  each_right P (x ∷ xs) ys all = each_right P xs ys (λ j. all (suc j))

  pub each_append : (P : Part → Type 0) (xs ys : List Part) → Each P xs → Each P ys → Each P (xs ++ ys)
  each_append P [] ys here there k part h = there k part h
  each_append P (x ∷ xs) ys here there zero part h = here 0 part h
  each_append P (x ∷ xs) ys here there (suc k) part h = each_append P xs ys (λ j. here (suc j)) there k part h

  pub cut_each : (P : Part → Type 0) (views : List X) (id : ℕ) (v left right : X) → slice_get views id ≡ Some v → f v ≡ f right ++ f left
      → Each P (flat_map f views) → Each P (flat_map f (set views id left)) × Each P (f right)
  cut_each P [] id v left right h e all = cc
  cut_each P (x ∷ xs) zero v left right h e all =
      let same : x ≡ v = cc in
      let both : Each P ((f right ++ f left) ++ flat_map f xs) = rw (same, e) at all in
      let here = each_left P (f right ++ f left) (flat_map f xs) both in
      (each_append P (f left) (flat_map f xs) (each_right P (f right) (f left) here) (each_right P (f right ++ f left) (flat_map f xs) both), each_left P (f right) (f left) here)
  cut_each P (x ∷ xs) (suc id) v left right h e all =
      let (more, last) = cut_each P xs id v left right h e (each_right P (f x) (flat_map f xs) all) in
      (each_append P (f x) (flat_map f (set xs id left)) (each_left P (f x) (flat_map f xs) all) more, last)

  -- a seat of one actor makes a move
  pub rule_moved : (spec : RingSpec) (words new : List ℕ) (views : List X) (id : ℕ) (v w : X) (before after : Part) → Rule f spec words views
      → slice_get views id ≡ Some v → f v ≡ before ∷ [] → f w ≡ after ∷ [] → Moved spec words new before after → Rule f spec new (set views id w)
  rule_moved spec words new views id v w before after rule at e is moved =
      let (k, here, sets) = view_part views id v before at e in
      record {
        lawful = rw (sets w after is) (lawful_moved k rule.lawful (apart_from_counts (flat_map f views) rule.single) here moved).0;
        single = λ a. rw (sets w after is, counts_after_set (flat_map f views) k a before after here moved.same_actor) (rule.single a);
      }

  -- a seat is cut in two
  pub rule_cut : (spec : RingSpec) (words : List ℕ) (views : List X) (id : ℕ) (v left right : X) → Rule f spec words views
      → slice_get views id ≡ Some v → f v ≡ f right ++ f left → Rule f spec words (set views id left ++ right ∷ [])
  rule_cut spec words views id v left right rule at e =
      let nil = append-nil (f right) in
      let all = flat_map-append f (set views id left) (right ∷ []) in
      let parts : flat_map f (set views id left ++ right ∷ []) ≡ flat_map f (set views id left) ++ f right = rw nil at all in
      let (left_laws, right_laws) = cut_each (PartLaw spec words) views id v left right at e rule.lawful.of_parts in
      record {
        lawful = record { of_words = rule.lawful.of_words; of_parts = rw parts (each_append (PartLaw spec words) (flat_map f (set views id left)) (f right) left_laws right_laws) };
        single = λ a. let same = cut_counts views id a v left right at e in let one = rule.single a in rw (parts, parts_append) (omega arith);
      }
