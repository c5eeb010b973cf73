-- Three lists and a rest, taken apart by the lengths of the lists.
use Rattle.std.proofs.Common.{◌≡◌, ◌∙◌, ℕ, List, ◌++◌, ap, sym, drop, length, take}
use Rattle.std.proofs.lemmas.List.{take_at, drop_at}

pub record Apart {A : Type 0} (a b c d a' b' c' d' : List A) : Type 0 where
  pub first : a' ≡ a
  pub second : b' ≡ b
  pub third : c' ≡ c
  pub rest : d' ≡ d

pub taken_apart : {A : Type 0} (a b c d all a' after_a b' after_b c' d' : List A) (k m n : ℕ) → all ≡ a ++ (b ++ (c ++ d)) → k ≡ length a → m ≡ length b → n ≡ length c
    → a' ≡ take k all → after_a ≡ drop k all → b' ≡ take m after_a → after_b ≡ drop m after_a → c' ≡ take n after_b → d' ≡ drop n after_b → Apart a b c d a' b' c' d'
taken_apart a b c d all a' after_a b' after_b c' d' k m n whole ek em en ea eaa eb eab ec ed =
    let rest_a : after_a ≡ b ++ (c ++ d) = eaa ∙ ap (drop k) whole ∙ drop_at a (b ++ (c ++ d)) k (sym ek) in
    let rest_b : after_b ≡ c ++ d = eab ∙ ap (drop m) rest_a ∙ drop_at b (c ++ d) m (sym em) in
    record {
      first = ea ∙ ap (take k) whole ∙ take_at a (b ++ (c ++ d)) k (sym ek);
      second = eb ∙ ap (take m) rest_a ∙ take_at b (c ++ d) m (sym em);
      third = ec ∙ ap (take n) rest_b ∙ take_at c d n (sym en);
      rest = ed ∙ ap (drop n) rest_b ∙ drop_at c d n (sym en);
    }
