-- A text and its schedule, line by line.
use Rattle.std.proofs.Common.{◌≡◌, ℕ, ◌+◌, ◌%◌, ◌<◌, ◌^◌, inl, inr, true, List, [], ◌∷◌, ◌++◌, length, decimal, Option, Some, None, refl, ap, sym, ◌∙◌, append_assoc, subst, arith, append-nil}
use Rattle.std.proofs.lemmas.Bool.{and_parts, false≢true}
use Rattle.std.proofs.lemmas.Bool.Decides.{nat_tests}
use Rattle.std.proofs.lemmas.Fmt.{decimal_by_steps_wide}
use Rattle.std.specs.List.{list_all}
use Rattle.crn_proto.specs.declared.schedule.Actor.{Actor}
use Rattle.crn_proto.specs.declared.schedule.Actor.TheVariants.{Producer, Finish, Reader, Leave}
use Rattle.crn_trace.specs.Schedule.{actor_text, actor_lines, is_below, are_below, IsTextOfActors, IsScheduleOf, HasNoSchedule}
use Rattle.crn_trace.specs.Inner.Schedule.{is_in_line, IsCut}

-- ---- no actor has a line feed in it

in_line_append : (xs ys : List ℕ) → list_all is_in_line xs ≡ true → list_all is_in_line ys ≡ true → list_all is_in_line (xs ++ ys) ≡ true
in_line_append [] ys h k = k
in_line_append (x ∷ xs) ys h k =
    let (here, more) = and_parts (is_in_line x) (list_all is_in_line xs) h in
    rw (here, in_line_append xs ys more k)

digit_in_line : (d : ℕ) → list_all is_in_line ((48 + d) ∷ []) ≡ true
digit_in_line d = grind (arith, nat_tests)

decimal_in_line : (n : ℕ) → n < 10 ^ 64 → list_all is_in_line (decimal n) ≡ true
decimal_in_line n h = decimal_by_steps_wide (λ _ bs. list_all is_in_line bs ≡ true) (λ m k. digit_in_line m) (λ m ds k p. in_line_append ds _ p (digit_in_line (m % 10))) n h

below : (r : ℕ) → is_below (2 ^ 32) (Reader r) ≡ true → r < 10 ^ 64
below r h = grind (arith, nat_tests, h)

actor_in_line : (who : Actor) → is_below (2 ^ 32) who ≡ true → list_all is_in_line (actor_text who) ≡ true
actor_in_line Producer h = refl
actor_in_line Finish h = refl
actor_in_line (Reader r) h = decimal_in_line r (below r h)
actor_in_line (Leave r) h = decimal_in_line r (below r h)

-- ---- a text is cut at its first line feed in one way

feed_in_line : (c : ℕ) → c ≡ 10 → is_in_line c ≡ true → ⊥
feed_in_line c e h = false≢true (rw e at h)

same_cut : (a b xs ys : List ℕ) → list_all is_in_line a ≡ true → list_all is_in_line b ≡ true → a ++ 10 ∷ xs ≡ b ++ 10 ∷ ys → (a ≡ b) × (xs ≡ ys)
same_cut [] [] xs ys h k e = (refl, cc)
same_cut [] (c ∷ b) xs ys h k e = let feed : c ≡ 10 = cc in absurd (feed_in_line c feed (and_parts (is_in_line c) (list_all is_in_line b) k).0)
same_cut (c ∷ a) [] xs ys h k e = let feed : c ≡ 10 = cc in absurd (feed_in_line c feed (and_parts (is_in_line c) (list_all is_in_line a) h).0)
same_cut (c ∷ a) (d ∷ b) xs ys h k e =
    let head : c ≡ d = cc in
    let tail : a ++ 10 ∷ xs ≡ b ++ 10 ∷ ys = cc in
    let rest = same_cut a b xs ys (and_parts (is_in_line c) (list_all is_in_line a) h).1 (and_parts (is_in_line d) (list_all is_in_line b) k).1 tail in
    ((λ i. head i ∷ rest.0 i), rest.1)

no_bytes : (a ys : List ℕ) → [] ≡ a ++ 10 ∷ ys → ⊥
no_bytes [] ys e = absurd cc
no_bytes (c ∷ a) ys e = absurd cc

no_cut : (a b ys : List ℕ) → list_all is_in_line a ≡ true → a ≡ b ++ 10 ∷ ys → ⊥
no_cut [] b ys h e = absurd (no_bytes b ys e)
no_cut (c ∷ a) [] ys h e = let feed : c ≡ 10 = cc in feed_in_line c feed (and_parts (is_in_line c) (list_all is_in_line a) h).0
no_cut (c ∷ a) (d ∷ b) ys h e =
    let tail : a ≡ b ++ 10 ∷ ys = cc in
    no_cut a b ys (and_parts (is_in_line c) (list_all is_in_line a) h).1 tail

-- ---- a text's first line is that of its first actor

pub record FirstOf (actors : List Actor) (line after : List ℕ) : Type 0 where
  pub who : Actor
  pub others : List Actor
  pub is : actors ≡ who ∷ others
  pub number : is_below (2 ^ 32) who ≡ true
  pub line_is : line ≡ actor_text who
  pub rest : IsTextOfActors others after

no_line : (w : Actor) (ys : List ℕ) → 10 ∷ [] ≡ actor_text w ++ 10 ∷ ys → ⊥
no_line Producer ys e = absurd cc
no_line w ys e = absurd cc

-- no bytes are the text of no actors alone
pub none_left : (ws : List Actor) → IsTextOfActors ws [] → ws ≡ []
none_left [] h = refl
none_left (w ∷ ws) h = elim h.text [
  | inl e ↦ absurd (no_bytes (actor_text w) (actor_lines ws) e)
  | inr e ↦ absurd (no_line w (actor_lines ws) e)
]

some_bytes : (xs : List ℕ) → 0 < length xs → xs ≡ [] → ⊥
some_bytes xs h e = omega (arith, h, ap length e)

joined : (line after : List ℕ) → (line ++ 10 ∷ after) ++ 10 ∷ [] ≡ line ++ 10 ∷ (after ++ 10 ∷ [])
joined line after = append_assoc line (10 ∷ after) (10 ∷ [])

end_of_text : (xs : List ℕ) → xs ++ 10 ∷ [] ≡ [] → ⊥
end_of_text [] e = absurd cc
end_of_text (x ∷ xs) e = absurd cc

pub first_of : (ws : List Actor) (text line after : List ℕ) → IsCut text line after → 0 < length text → IsTextOfActors ws text → FirstOf ws line after
first_of [] text line after cut some h = elim h.text [
  | inl e ↦ absurd (some_bytes text some e)
  | inr e ↦ absurd (end_of_text text e)
]
first_of (w ∷ ws) text line after cut some h =
    let (number, numbers) = and_parts (is_below (2 ^ 32) w) (are_below (2 ^ 32) ws) h.numbers in
    let clean = actor_in_line w number in
    elim cut.whole [
      | inl e ↦ elim h.text [
        | inl f ↦
            let parts = same_cut line (actor_text w) after (actor_lines ws) cut.in_line clean (sym e ∙ f) in
            record { who = w; others = ws; is = refl; number = number; line_is = parts.0; rest = record { numbers = numbers; text = inl parts.1 } }
        | inr f ↦
            let parts = same_cut line (actor_text w) (after ++ 10 ∷ []) (actor_lines ws) cut.in_line clean (sym (ap (λ t. t ++ 10 ∷ []) e ∙ joined line after) ∙ f) in
            record { who = w; others = ws; is = refl; number = number; line_is = parts.0; rest = record { numbers = numbers; text = inr parts.1 } }
      ]
      | inr e ↦ elim h.text [
        | inl f ↦ absurd (no_cut line (actor_text w) (actor_lines ws) cut.in_line (sym e.0 ∙ f))
        | inr f ↦
            let parts = same_cut line (actor_text w) [] (actor_lines ws) cut.in_line clean (sym (ap (λ t. t ++ 10 ∷ []) e.0) ∙ f) in
            record { who = w; others = ws; is = refl; number = number; line_is = parts.0; rest = record { numbers = numbers; text = inl (e.1 ∙ parts.1) } }
      ]
    ]

pub with_first : (who : Actor) (ws : List Actor) (text line after : List ℕ) → IsCut text line after → is_below (2 ^ 32) who ≡ true → line ≡ actor_text who → IsTextOfActors ws after → IsTextOfActors (who ∷ ws) text
with_first who ws text line after cut number is h =
    let numbers : are_below (2 ^ 32) (who ∷ ws) ≡ true = rw (number, h.numbers) refl in
    elim cut.whole [
      | inl e ↦ elim h.text [
        | inl f ↦ record { numbers = numbers; text = inl (e ∙ (λ i. is i ++ 10 ∷ f i)) }
        | inr f ↦ record { numbers = numbers; text = inr (ap (λ t. t ++ 10 ∷ []) e ∙ joined line after ∙ (λ i. is i ++ 10 ∷ f i)) }
      ]
      | inr e ↦
          let none = none_left ws (subst (IsTextOfActors ws) e.1 h) in
          record { numbers = numbers; text = inr (ap (λ t. t ++ 10 ∷ []) e.0 ∙ (λ i. is i ++ 10 ∷ actor_lines (sym none i))) }
    ]

-- ---- how far a text is read: what was found, then the actors of the rest

pub record IsReadSoFar (text : List ℕ) (found : List Actor) (rest : List ℕ) : Type 0 where
  pub says : (ws : List Actor) → IsTextOfActors ws rest → IsTextOfActors (found ++ ws) text
  pub only : (all : List Actor) → IsTextOfActors all text → (ws : List Actor) × (all ≡ found ++ ws) × IsTextOfActors ws rest

next_only : (text : List ℕ) (found : List Actor) (rest line after : List ℕ) (who : Actor) → IsReadSoFar text found rest → IsCut rest line after → 0 < length rest
    → ((w : Actor) → is_below (2 ^ 32) w ≡ true → line ≡ actor_text w → w ≡ who)
    → (all : List Actor) → IsTextOfActors all text → (ws : List Actor) × (all ≡ (found ++ who ∷ []) ++ ws) × IsTextOfActors ws after
next_only text found rest line after who so_far cut some every all h =
    let (ws, is, more) = so_far.only all h in
    let first = first_of ws rest line after cut some more in
    let same : first.who ≡ who = every first.who first.number first.line_is in
    (first.others, is ∙ ap (λ (vs : List Actor). found ++ vs) (first.is ∙ ap (λ (w : Actor). w ∷ first.others) same) ∙ sym (append_assoc found (who ∷ []) first.others), first.rest)

pub one_more : (text : List ℕ) (found : List Actor) (rest line after : List ℕ) (who : Actor) → IsReadSoFar text found rest → IsCut rest line after → 0 < length rest
    → is_below (2 ^ 32) who ≡ true → line ≡ actor_text who → ((w : Actor) → is_below (2 ^ 32) w ≡ true → line ≡ actor_text w → w ≡ who)
    → IsReadSoFar text (found ++ who ∷ []) after
one_more text found rest line after who so_far cut some number is every = record {
  says = λ ws h. subst (λ (vs : List Actor). IsTextOfActors vs text) (sym (append_assoc found (who ∷ []) ws)) (so_far.says (who ∷ ws) (with_first who ws rest line after cut number is h));
  only = next_only text found rest line after who so_far cut some every;
}

pub no_schedule : (text : List ℕ) (found : List Actor) (rest line after : List ℕ) → IsReadSoFar text found rest → IsCut rest line after → 0 < length rest
    → ((w : Actor) → is_below (2 ^ 32) w ≡ true → line ≡ actor_text w → ⊥)
    → HasNoSchedule text
no_schedule text found rest line after so_far cut some none all h =
    let (ws, is, more) = so_far.only all h in
    let first = first_of ws rest line after cut some more in
    none first.who first.number first.line_is

no_text : IsTextOfActors [] []
no_text = record { numbers = refl; text = inl refl }

pub all_read : (text : List ℕ) (found : List Actor) → IsReadSoFar text found [] → IsScheduleOf text found
all_read text found so_far = record {
  is_text = subst (λ (vs : List Actor). IsTextOfActors vs text) (append-nil found) (so_far.says [] no_text);
  no_other = λ others h.
      let (ws, is, more) = so_far.only others h in
      is ∙ ap (λ (vs : List Actor). found ++ vs) (none_left ws more) ∙ append-nil found;
}

-- ---- answers that name an actor

pub same_actor : (a b : Actor) → Path (Option Actor) (Some a) (Some b) → b ≡ a
same_actor a b e = cc

pub no_actor : (r : Option Actor) (a : Actor) → r ≡ None → r ≡ Some a → ⊥
no_actor r a e f = absurd cc
