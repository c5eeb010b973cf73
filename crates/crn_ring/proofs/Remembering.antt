-- The least count that a producer remembers.
use Rattle.std.proofs.Common.{◌≡◌, ℕ, ◌+◌, ◌-◌, ◌<◌, ◌≤◌, ◌≢◌, List, length, get_or, set, inl, inr, ap, ◌∙◌, arith, get_or-set_same, get_or-set_other, replicate}
use Rattle.std.proofs.lemmas.Bool.{cases_eq, cases_lt}
use Rattle.std.proofs.lemmas.List.{get_or-replicate}
use Rattle.crn_proto.specs.Ring.{left_mark}
use Rattle.crn_ring.specs.Gates.{Passes, Remembers}
use Rattle.crn_ring.specs.Inner.Gates.{LeastOf}

pub at_open : (size first readers : ℕ) → 0 < readers → first ≤ left_mark → Remembers size first readers (replicate readers first) first
at_open size first readers some few = record {
  low = λ q h. let e = get_or-replicate readers q first 0 h in omega arith;
  high = few;
  exact = λ x h all. let e = get_or-replicate readers 0 first 0 some in let a = all 0 some in omega arith;
  room = λ q h. let e = get_or-replicate readers q first 0 h in omega arith;
}

pub after_all : (size n readers least : ℕ) (gates : List ℕ) → n ≤ left_mark → ((q : ℕ) → q < readers → Passes size n (get_or gates q 0)) → LeastOf readers gates least → Remembers size n readers gates least
after_all size n readers least gates few passed l = record {
  low = l.low;
  high = l.high;
  exact = λ x h all. elim l.met [ inl e ↦ omega arith | inr there ↦ let a = all there.0 there.1 in let e = there.2 in omega arith ];
  room = λ q h. elim (cases_eq (get_or gates q 0) left_mark) [ inl e ↦ omega arith | inr ne ↦ let p : n < get_or gates q 0 + size = passed q h ne in omega arith ];
}

-- a load that finds no room at reader r, after loads that found room at the readers below; the gates above are as they were
pub after_full : (size n readers r taken least : ℕ) (before gates : List ℕ) → n ≤ left_mark → r < readers → r < length gates → n ≡ taken + size → Remembers size n readers before least
    → ((q : ℕ) → q < r → Passes size n (get_or gates q 0)) → ((q : ℕ) → r ≤ q → get_or gates q 0 ≡ get_or before q 0) → Remembers size n readers (set gates r taken) taken
after_full size n readers r taken least before gates few within inside full old passed same = record {
  low = λ q h. let s = room q h in omega arith;
  high = omega arith;
  exact = λ x h all. let a = all r within in let e = get_or-set_same gates r taken 0 inside in omega arith;
  room = room;
}
  where
    room : (q : ℕ) → q < readers → n ≤ get_or (set gates r taken) q 0 + size
    room q h = elim (cases_eq q r) [
      | inl e ↦ let is : get_or (set gates r taken) q 0 ≡ taken = ap (λ (z : ℕ). get_or (set gates r taken) z 0) e ∙ get_or-set_same gates r taken 0 inside in omega arith
      | inr ne ↦ let is = get_or-set_other gates r q taken 0 ne in elim (cases_lt q r) [
        | inl below ↦ elim (cases_eq (get_or gates q 0) left_mark) [ inl e ↦ omega arith | inr ne ↦ let p : n < get_or gates q 0 + size = passed q below ne in omega arith ]
        | inr above ↦ let e = same q above in let s = old.room q h in omega arith
      ]
    ]

pub after_publishing : (size n count readers least : ℕ) (gates : List ℕ) → n + count ≤ least + size → Remembers size n readers gates least → Remembers size (n + count) readers gates least
after_publishing size n count readers least gates fits old = record { low = old.low; high = old.high; exact = old.exact; room = λ q h. let l = old.low q h in omega arith }

-- where each gate has room for m blocks more, so has the least
pub all_fit : (size n m readers least : ℕ) (gates : List ℕ) → n + m ≤ left_mark → Remembers size n readers gates least → ((q : ℕ) → q < readers → get_or gates q 0 ≢ left_mark → n + m ≤ get_or gates q 0 + size) → n + m ≤ least + size
all_fit size n m readers least gates few old fit = elim (cases_lt (n + m) size) [
  | inl small ↦ omega arith
  | inr large ↦
      let at = old.exact ((n + m) - size) (omega arith) (λ q h. elim (cases_eq (get_or gates q 0) left_mark) [ inl e ↦ omega arith | inr ne ↦ let f = fit q h ne in omega arith ]) in
      omega arith
]
