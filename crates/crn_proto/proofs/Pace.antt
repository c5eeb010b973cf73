-- Rounds of a ring, by nothing but how far each actor is before and after them: in a round a block is published if there is
-- room, and each reader takes one if there is one.
use Rattle.std.proofs.Common.{◌≡◌, ℕ, zero, suc, ◌+◌, ◌-◌, ◌<◌, ◌≤◌, ◌⊎◌, Bool, true, false, List, [], ◌∷◌, length, inl, inr, refl, sym, ◌∙◌, arith, cond, ◌==◌}
use Rattle.std.proofs.lemmas.Bool.{cases_Bool, cases_lt, true≢false, eqb-false, or_cases, or_left, or_right, or_parts}
use Rattle.crn_proto.specs.declared.spec.RingSpec.{RingSpec}
use Rattle.crn_proto.specs.Ring.{IsRing}
use Rattle.crn_proto.specs.Progress.{Mark, has_finished, AllFinished, blocks_of, rounds_of}

-- a test holds of all numbers below n, or of one of them it does not
pub all_or_one : (f : ℕ → Bool) (n : ℕ) → ((r : ℕ) → r < n → f r ≡ true) ⊎ ((r : ℕ) × (r < n) × (f r ≡ false))
all_or_one f zero = inl (λ r h. absurd (omega arith))
all_or_one f (suc n) = elim (all_or_one f n) [
  | inr (r, h, e) ↦ inr (r, omega arith, e)
  | inl all ↦ elim (cases_Bool (f n)) [
    | inr e ↦ inr (n, omega arith, e)
    | inl last ↦ inl (λ r h. elim (cases_lt r n) [ inl below ↦ all r below | inr above ↦ let e : n ≡ r = omega arith in rw e at last ])
  ]
]

pub all_finished : (spec : RingSpec) (x : Mark) → x.ended ≡ true → ((r : ℕ) → r < spec.readers → has_finished x (suc r) ≡ true) → AllFinished spec x
all_finished spec x end all zero h = end
all_finished spec x end all (suc r) h = all r (omega arith)

-- each reader that has not left leaves room for the next block
abbrev pub HasRoom : RingSpec → Mark → Type 0
HasRoom spec x = (r : ℕ) → r < spec.readers → (x.left r ≡ true) ⊎ (x.published < x.taken r + spec.size)

-- what holds of the marks of a ring
pub record MarkStands (spec : RingSpec) (x : Mark) : Type 0 where
  pub first_published : spec.id.first ≤ x.published
  pub in_total : x.published ≤ spec.id.total
  pub from_first : (r : ℕ) → r < spec.readers → spec.id.first ≤ x.taken r
  pub in_published : (r : ℕ) → r < spec.readers → x.left r ≡ false → x.taken r ≤ x.published
  pub at_end : (r : ℕ) → r < spec.readers → x.seen_end r ≡ true → x.ended ≡ true

-- nothing is taken back
pub record Onward (spec : RingSpec) (x y : Mark) : Type 0 where
  pub published : x.published ≤ y.published
  pub ended : x.ended ≡ true → (y.ended ≡ true) × (y.published ≡ x.published)
  pub taken : (r : ℕ) → r < spec.readers → x.taken r ≤ y.taken r
  pub left : (r : ℕ) → r < spec.readers → x.left r ≡ true → y.left r ≡ true
  pub seen_end : (r : ℕ) → r < spec.readers → x.seen_end r ≡ true → y.seen_end r ≡ true

-- who has finished, stays so
pub finished_on : (spec : RingSpec) (x y : Mark) → Onward spec x y → (a : ℕ) → a ≤ spec.readers → has_finished x a ≡ true → has_finished y a ≡ true
finished_on spec x y onward zero h e = (onward.ended e).0
finished_on spec x y onward (suc r) h e = elim (or_cases (x.left r) (x.seen_end r) e) [
  | inl left ↦ or_left _ _ (onward.left r (omega arith) left)
  | inr seen ↦ or_right _ _ (onward.seen_end r (omega arith) seen)
]

-- what a round does
pub record Rounds (spec : RingSpec) (x y : Mark) : Type 0 where
  pub stands : MarkStands spec x
  pub onward : Onward spec x y
  pub publishes : x.ended ≡ false → x.published < spec.id.total → HasRoom spec x → (y.ended ≡ true) ⊎ (x.published < y.published)
  pub ends : x.ended ≡ false → x.published ≡ spec.id.total → y.ended ≡ true
  pub takes : (r : ℕ) → r < spec.readers → has_finished x (suc r) ≡ false → x.taken r < x.published → (has_finished y (suc r) ≡ true) ⊎ (x.taken r < y.taken r)
  pub sees_end : (r : ℕ) → r < spec.readers → has_finished x (suc r) ≡ false → x.ended ≡ true → x.taken r ≡ x.published → has_finished y (suc r) ≡ true

-- rounds one after another, from mark to mark
abbrev pub Paced : RingSpec → Mark → List Mark → Type 0
Paced spec x [] = Unit {0}
Paced spec x (y ∷ marks) = Rounds spec x y × Paced spec y marks

-- the mark after them
abbrev pub last_mark : Mark → List Mark → Mark
last_mark x [] = x
last_mark x (y ∷ marks) = last_mark y marks

-- ---- one round

-- all blocks below f are published, or the end is marked; a reader is done, or has taken all blocks below g or all that there are
record Reached (spec : RingSpec) (x : Mark) (f g : ℕ) : Type 0 where
  produced : (x.ended ≡ true) ⊎ (f ≤ x.published)
  took : (r : ℕ) → r < spec.readers → (has_finished x (suc r) ≡ true) ⊎ ((g ≤ x.taken r) ⊎ ((x.ended ≡ true) × (x.published ≤ x.taken r)))

-- one block more, or none
abbrev OrMore : ℕ → ℕ → Type 0 → Type 0
OrMore n n' may = (n' ≡ n) ⊎ ((n' ≡ n + 1) × may)

module _ (spec : RingSpec) (x y : Mark) (go : Rounds spec x y) (f g : ℕ) (re : Reached spec x f g) where
  room_here : x.ended ≡ false → x.published ≡ f → f < g + spec.size → HasRoom spec x
  room_here going at near r h = elim (re.took r h) [
    | inl fin ↦ elim (or_cases _ _ fin) [
      | inl left ↦ inl left
      | inr seen ↦ absurd (true≢false (sym (go.stands.at_end r h seen) ∙ going))
    ]
    | inr (inl low) ↦ inr (omega arith)
    | inr (inr (end, whole)) ↦ absurd (true≢false (sym end ∙ going))
  ]

  produces_one : f < spec.id.total → f < g + spec.size → (y.ended ≡ true) ⊎ (f + 1 ≤ y.published)
  produces_one more near =
      elim (cases_Bool x.ended) [
        | inl end ↦ inl (go.onward.ended end).0
        | inr going ↦ elim re.produced [
          | inl end ↦ inl (go.onward.ended end).0
          | inr low ↦ elim (cases_lt f x.published) [
            | inl above ↦ inr (omega arith)
            | inr at ↦ elim (go.publishes going (omega arith) (room_here going (omega arith) near)) [ inl end ↦ inl end | inr up ↦ inr (omega arith) ]
          ]
        ]
      ]

  produces : (f' : ℕ) → OrMore f f' ((f < spec.id.total) × (f < g + spec.size)) → (y.ended ≡ true) ⊎ (f' ≤ y.published)
  produces f' more = elim more [
    | inl same ↦ let rises = go.onward.published in elim re.produced [ inl end ↦ inl (go.onward.ended end).0 | inr low ↦ inr (omega arith) ]
    | inr (one, (few, near)) ↦ elim (produces_one few near) [ inl end ↦ inl end | inr up ↦ inr (omega arith) ]
  ]

  abbrev Took : ℕ → ℕ → Type 0
  Took g' r = (has_finished y (suc r) ≡ true) ⊎ ((g' ≤ y.taken r) ⊎ ((y.ended ≡ true) × (y.published ≤ y.taken r)))

  ended_took : (g' r : ℕ) → r < spec.readers → x.ended ≡ true → x.published ≤ x.taken r → Took g' r
  ended_took g' r h end whole =
      let (still, same) = go.onward.ended end in
      let rises = go.onward.taken r h in
      inr (inr (still, omega arith))

  takes_one : (r : ℕ) → r < spec.readers → has_finished x (suc r) ≡ false → x.taken r ≡ g → g < f → Took (g + 1) r
  takes_one r h there at behind = elim (cases_lt (x.taken r) x.published) [
    | inl more ↦ elim (go.takes r h there more) [ inl fin ↦ inl fin | inr up ↦ inr (inl (omega arith)) ]
    | inr none ↦ elim re.produced [ inl end ↦ ended_took (g + 1) r h end none | inr low ↦ absurd (omega arith) ]
  ]

  takes_on : (g' : ℕ) → OrMore g g' (g < f) → (r : ℕ) → r < spec.readers → Took g' r
  takes_on g' more r h =
      let rises = go.onward.taken r h in
      elim (re.took r h) [
        | inl fin ↦ inl (finished_on spec x y go.onward (suc r) (omega arith) fin)
        | inr (inr (end, whole)) ↦ ended_took g' r h end whole
        | inr (inl low) ↦ elim more [
          | inl same ↦ inr (inl (omega arith))
          | inr (one, behind) ↦ elim (cases_lt g (x.taken r)) [
            | inl above ↦ inr (inl (omega arith))
            | inr at ↦ elim (cases_Bool (has_finished x (suc r))) [
              | inl fin ↦ inl (finished_on spec x y go.onward (suc r) (omega arith) fin)
              | inr there ↦ elim (takes_one r h there (omega arith) behind) [
                | inl fin ↦ inl fin
                | inr (inl up) ↦ inr (inl (omega arith))
                | inr (inr whole) ↦ inr (inr whole)
              ]
            ]
          ]
        ]
      ]

  -- a round in which a block may be published, and one taken
  round_on : (f' g' : ℕ) → OrMore f f' ((f < spec.id.total) × (f < g + spec.size)) → OrMore g g' (g < f) → Reached spec y f' g'
  round_on f' g' front back = record { produced = produces f' front; took = λ r h. takes_on g' back r h }

  -- with all blocks published the end is marked
  end_round : spec.id.total ≤ f → y.ended ≡ true
  end_round full = elim (cases_Bool x.ended) [
    | inl end ↦ (go.onward.ended end).0
    | inr going ↦ elim re.produced [
      | inl end ↦ (go.onward.ended end).0
      | inr low ↦ let most = go.stands.in_total in go.ends going (omega arith)
    ]
  ]

  -- with the end marked and all blocks taken, each reader sees the end
  last_round : x.ended ≡ true → spec.id.total ≤ g → AllFinished spec y
  last_round end full = all_finished spec y (go.onward.ended end).0 (λ r h. elim (cases_Bool (has_finished x (suc r))) [
    | inl fin ↦ finished_on spec x y go.onward (suc r) (omega arith) fin
    | inr there ↦
        let own = go.stands.in_published r h (or_parts (x.left r) (x.seen_end r) there).0 in
        elim (re.took r h) [
          | inl fin ↦ finished_on spec x y go.onward (suc r) (omega arith) fin
          | inr (inl low) ↦ go.sees_end r h there end (omega arith)
          | inr (inr (also, whole)) ↦ go.sees_end r h there end (omega arith)
        ]
  ])

-- ---- all rounds

-- what is done stays so
done_stays : (spec : RingSpec) (marks : List Mark) (x : Mark) → Paced spec x marks → AllFinished spec x → AllFinished spec (last_mark x marks)
done_stays spec [] x paced fin = fin
done_stays spec (y ∷ marks) x (go, more) fin = done_stays spec marks y more (λ a h. finished_on spec x y go.onward a h (fin a h))

-- Once all blocks are published, and all but one taken, two rounds are enough.
two_more : (spec : RingSpec) (x y z : Mark) (marks : List Mark) (f g : ℕ) → Reached spec x f g → spec.id.total ≡ f → g ≤ f → f ≤ g + 1 → Paced spec x (y ∷ z ∷ marks)
    → AllFinished spec (last_mark x (y ∷ z ∷ marks))
two_more spec x y z marks f g re full low high (first, (second, more)) =
    let back : OrMore g f (g < f) = elim (cases_lt g f) [ inl behind ↦ inr (omega arith, behind) | inr level ↦ inl (omega arith) ] in
    let then = round_on spec x y first f g re f f (inl refl) back in
    let end = end_round spec x y first f g re (omega arith) in
    done_stays spec marks z more (last_round spec y z second f f then end (omega arith))

-- With two slots or more a block is published in each round, and taken in the next.
on_many_slots : (spec : RingSpec) (marks : List Mark) (x : Mark) (f g : ℕ) → Reached spec x f g → 2 ≤ spec.size → f ≤ spec.id.total → g ≤ f → f ≤ g + 1 → Paced spec x marks
    → spec.id.total - f + 2 ≤ length marks → AllFinished spec (last_mark x marks)
on_many_slots spec (y ∷ z ∷ marks) x f g re size most low high paced long = elim (cases_lt f spec.id.total) [
  | inr full ↦ two_more spec x y z marks f g re (omega arith) low high paced
  | inl more ↦
      let back : OrMore g f (g < f) = elim (cases_lt g f) [ inl behind ↦ inr (omega arith, behind) | inr level ↦ inl (omega arith) ] in
      let then = round_on spec x y paced.0 f g re (f + 1) f (inr (refl, (more, omega arith))) back in
      on_many_slots spec (z ∷ marks) y (f + 1) f then size (omega arith) (omega arith) (omega arith) paced.1 (omega arith)
]
on_many_slots spec marks x f g re size most low high paced long = absurd (omega arith)

-- On any ring a block is published in a round, and taken in the next one.
on_one_slot : (spec : RingSpec) (marks : List Mark) (x : Mark) (f g : ℕ) → 0 < spec.size → Reached spec x f g → f ≤ spec.id.total → g ≤ f → f ≤ g + 1 → Paced spec x marks
    → spec.id.total - f + (spec.id.total - g) + 1 ≤ length marks → 2 ≤ length marks → AllFinished spec (last_mark x marks)
on_one_slot spec (y ∷ z ∷ marks) x f g slots re most low high paced long two = elim (cases_lt f spec.id.total) [
  | inr full ↦ two_more spec x y z marks f g re (omega arith) low high paced
  | inl more ↦ elim (cases_lt g f) [
    | inl behind ↦
        let then = round_on spec x y paced.0 f g re f (g + 1) (inl refl) (inr (refl, behind)) in
        on_one_slot spec (z ∷ marks) y f (g + 1) slots then (omega arith) (omega arith) (omega arith) paced.1 (omega arith) (omega arith)
    | inr level ↦
        let then = round_on spec x y paced.0 f g re (f + 1) g (inr (refl, (more, omega arith))) (inl refl) in
        on_one_slot spec (z ∷ marks) y (f + 1) g slots then (omega arith) (omega arith) (omega arith) paced.1 (omega arith) (omega arith)
  ]
]
on_one_slot spec marks x f g slots re most low high paced long two = absurd (omega arith)

-- After so many rounds all are done.
pub paced_ends : (spec : RingSpec) → IsRing spec → (x : Mark) (marks : List Mark) → MarkStands spec x → Paced spec x marks → rounds_of spec ≤ length marks → AllFinished spec (last_mark x marks)
paced_ends spec ring x marks stands paced long =
    let re : Reached spec x spec.id.first spec.id.first = record { produced = inr stands.first_published; took = λ r h. inr (inl (stands.from_first r h)) } in
    let ordered = ring.in_order in
    let slots = ring.has_slots in
    elim (cases_Bool (spec.size == 1)) [
      | inl one ↦
          let more : cond (spec.size == 1) (blocks_of spec - 1) 0 ≡ blocks_of spec - 1 = rw one refl in
          on_one_slot spec marks x spec.id.first spec.id.first slots re ordered (omega arith) (omega arith) paced (omega arith) (omega arith)
      | inr many ↦
          let other = eqb-false _ _ many in
          on_many_slots spec marks x spec.id.first spec.id.first re (omega arith) ordered (omega arith) (omega arith) paced (omega arith)
    ]
