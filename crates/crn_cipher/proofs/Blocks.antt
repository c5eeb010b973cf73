-- The words of a block as one list, and in their streams.
use Rattle.std.proofs.Common.{◌≡◌, ◌≢◌, ℕ, ◌+◌, ◌-◌, ◌<◌, ◌≤◌, ◌^◌, List, [], ◌∷◌, ◌++◌, length, slice_index, refl, sym, ap, ◌∙◌, arith, lit<}
use Rattle.std.proofs.lemmas.List.{get_or_append_left, get_or-append_right}
use Rattle.crn_cipher.specs.declared.TheConstants.{BLOCK_WORDS}
use Rattle.crn_cipher.specs.declared.stream.Stream.{Stream}
use Rattle.crn_cipher.specs.declared.stream.Stream.TheVariants.{Demand, Lead, Returns}
use Rattle.crn_cipher.specs.Cipher.{Threefry, key_step}
use Rattle.crn_cipher.specs.Blocks.{counter_of, StreamWords, words_of, BlockWords, block_word}
use Rattle.crn_cipher.proofs.Inverse.{state_from, distinct}

pub length-threefry : (key ctr : List ℕ) → length (Threefry key ctr) ≡ 4
unfolding Threefry key_step
length-threefry key ctr = refl

pub length-block : (key : List ℕ) (n : ℕ) → length (BlockWords key n) ≡ BLOCK_WORDS
unfolding BlockWords Threefry key_step
length-block key n = refl

-- ---- in a list of fours, one list after another

-- word i of the first four
first_word : (xs ys : List ℕ) (i : ℕ) → length xs ≡ 4 → i < 4 → slice_index (xs ++ ys) i ≡ slice_index xs i
first_word xs ys i four below = get_or_append_left xs ys 0 i (omega (arith, four))

-- word i of those after them
later_word : (xs ys : List ℕ) (i : ℕ) → length xs ≡ 4 → 4 ≤ i → slice_index (xs ++ ys) i ≡ slice_index ys (i - 4)
later_word xs ys i four above = get_or-append_right xs ys 4 i 0 four above

four_words : (key : List ℕ) (n : ℕ) (s : Stream) → length (StreamWords key n s) ≡ 4
four_words key n s = length-threefry key _

pub word_of_demand : (key : List ℕ) (n i : ℕ) → i < 4 → slice_index (StreamWords key n Demand) i ≡ block_word key n i
unfolding BlockWords
word_of_demand key n i below = sym (first_word (StreamWords key n Demand) (words_of key n (Lead ∷ Returns ∷ [])) i (four_words key n Demand) below)

pub word_of_lead : (key : List ℕ) (n i : ℕ) → 4 ≤ i → i < 8 → slice_index (StreamWords key n Lead) (i - 4) ≡ block_word key n i
unfolding BlockWords
word_of_lead key n i above below =
    sym (later_word (StreamWords key n Demand) (words_of key n (Lead ∷ Returns ∷ [])) i (four_words key n Demand) above
    ∙ first_word (StreamWords key n Lead) (words_of key n (Returns ∷ [])) (i - 4) (four_words key n Lead) (omega (arith, above, below)))

pub word_of_returns : (key : List ℕ) (n i : ℕ) → 8 ≤ i → i < BLOCK_WORDS → slice_index (StreamWords key n Returns) (i - 8) ≡ block_word key n i
unfolding BlockWords
word_of_returns key n i above below =
    let place : i - 4 - 4 ≡ i - 8 = omega arith in
    sym (later_word (StreamWords key n Demand) (words_of key n (Lead ∷ Returns ∷ [])) i (four_words key n Demand) (omega (arith, above))
    ∙ later_word (StreamWords key n Lead) (words_of key n (Returns ∷ [])) (i - 4) (four_words key n Lead) (omega (arith, above))
    ∙ ap (slice_index (words_of key n (Returns ∷ []))) place
    ∙ first_word (StreamWords key n Returns) [] (i - 8) (four_words key n Returns) (omega (arith, above, below)))

-- four words one by one
four_are : (xs : List ℕ) → length xs ≡ 4 → slice_index xs 0 ∷ slice_index xs 1 ∷ slice_index xs 2 ∷ slice_index xs 3 ∷ [] ≡ xs
four_are (a ∷ b ∷ c ∷ d ∷ []) four = refl
four_are xs four = absurd (omega (arith, four))

-- a stream's words, where a block's words have them from a place on
stream_of : (key words : List ℕ) (n from : ℕ) (s : Stream) → words ≡ BlockWords key n → ((i : ℕ) → i < 4 → slice_index (StreamWords key n s) i ≡ block_word key n (i + from))
    → slice_index words (0 + from) ∷ slice_index words (1 + from) ∷ slice_index words (2 + from) ∷ slice_index words (3 + from) ∷ [] ≡ StreamWords key n s
stream_of key words n from s is at =
    let here : (i : ℕ) → i < 4 → slice_index words (i + from) ≡ slice_index (StreamWords key n s) i = λ i below. ap (λ (l : List ℕ). slice_index l (i + from)) is ∙ sym (at i below) in
    (λ j. here 0 (omega arith) j ∷ here 1 (omega arith) j ∷ here 2 (omega arith) j ∷ here 3 (omega arith) j ∷ []) ∙ four_are (StreamWords key n s) (four_words key n s)

pub demand_of : (key words : List ℕ) (n : ℕ) → words ≡ BlockWords key n
    → slice_index words 0 ∷ slice_index words 1 ∷ slice_index words 2 ∷ slice_index words 3 ∷ [] ≡ StreamWords key n Demand
demand_of key words n is = stream_of key words n 0 Demand is (λ i below.
    let back : i + 0 ≡ i = omega arith in
    ap (slice_index (StreamWords key n Demand)) (sym back) ∙ word_of_demand key n (i + 0) (omega (arith, below)))

pub lead_of : (key words : List ℕ) (n : ℕ) → words ≡ BlockWords key n
    → slice_index words 4 ∷ slice_index words 5 ∷ slice_index words 6 ∷ slice_index words 7 ∷ [] ≡ StreamWords key n Lead
lead_of key words n is = stream_of key words n 4 Lead is (λ i below.
    let back : i + 4 - 4 ≡ i = omega arith in
    ap (slice_index (StreamWords key n Lead)) (sym back) ∙ word_of_lead key n (i + 4) (omega arith) (omega (arith, below)))

pub returns_of : (key words : List ℕ) (n : ℕ) → words ≡ BlockWords key n
    → slice_index words 8 ∷ slice_index words 9 ∷ slice_index words 10 ∷ slice_index words 11 ∷ [] ≡ StreamWords key n Returns
returns_of key words n is = stream_of key words n 8 Returns is (λ i below.
    let back : i + 8 - 8 ≡ i = omega arith in
    ap (slice_index (StreamWords key n Returns)) (sym back) ∙ word_of_returns key n (i + 8) (omega arith) (omega (arith, below)))

-- ---- Blocks of different numbers differ in the words of each stream.

counter_fits : (s : Stream) → counter_of s < 2 ^ 64
counter_fits Demand = lit< tt
counter_fits s = lit< tt

pub apart : (key : List ℕ) → length key ≡ 4 → ((i : ℕ) → slice_index key i < 2 ^ 64) → (m n : ℕ) → m < 2 ^ 64 → n < 2 ^ 64 → m ≢ n → (s : Stream)
    → StreamWords key m s ≢ StreamWords key n s
apart key four words m n fits-m fits-n differ s e = differ (distinct key (state_from key four words) (counter_of s) m n (counter_fits s) fits-m fits-n e)
