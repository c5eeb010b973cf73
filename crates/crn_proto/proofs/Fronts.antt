-- Blocks and words in a row.
use Rattle.std.proofs.Common.{◌≡◌, ℕ, suc, zero, ◌+◌, ◌*◌, ◌/◌, ◌%◌, ◌<◌, ◌≤◌, List, [], ◌∷◌, ◌++◌, length, take, drop, refl, ap, ◌∙◌, arith, zero-add, add-zero, append_assoc, add-one}
use Rattle.crn_cipher.specs.declared.TheConstants.{BLOCK_WORDS}
use Rattle.std.specs.List.{concat}
use Rattle.std.proofs.lemmas.List.{append-nil, take_more, take_at, take_all, drop_at}
use Rattle.std.proofs.lemmas.List.Folds.{concat-append}
use Rattle.crn_cipher.proofs.Blocks.{length-block}
use Rattle.crn_cipher.specs.Blocks.{block_word, BlockWords}
use Rattle.crn_proto.specs.Stream.{front, first_words}

pub length-front : (key : List ℕ) (n c : ℕ) → length (front key n c) ≡ c
unfolding front
length-front key n zero = refl
length-front key n (suc c) = ap suc (length-front key (suc n) c)

pub front_append : (key : List ℕ) (n a b : ℕ) → front key n (a + b) ≡ front key n a ++ front key (n + a) b
unfolding front
front_append key n zero b = rw (zero-add, add-zero) refl
front_append key n (suc a) b =
    let e : suc a + b ≡ suc (a + b) = omega arith in
    let f : suc n + a ≡ n + suc a = omega arith in
    rw e (ap (λ xs. BlockWords key n ∷ xs) (rw f at (front_append key (suc n) a b)))

-- c blocks from the a-th on
pub front_part : (key : List ℕ) (n a c b : ℕ) → take c (drop a (front key n (a + (c + b)))) ≡ front key (n + a) c
front_part key n a c b =
    let first = length-front key n a in
    let second = length-front key (n + a) c in
    rw (front_append, drop_at) (rw (front_append, take_at) refl)

first_by_take : (key : List ℕ) (n c i : ℕ) → i ≤ BLOCK_WORDS → first_words key n (BLOCK_WORDS * c + i) ≡ first_words key n (BLOCK_WORDS * c) ++ take i (BlockWords key (n + c))
unfolding first_words
first_by_take key n c zero h = rw (add-zero, append-nil) refl
first_by_take key n c (suc i) h =
    let e : BLOCK_WORDS * c + suc i ≡ suc (BLOCK_WORDS * c + i) = omega arith in
    let block : (BLOCK_WORDS * c + i) / BLOCK_WORDS ≡ c = omega arith in
    let word : (BLOCK_WORDS * c + i) % BLOCK_WORDS ≡ i = omega arith in
    let within : i < length (BlockWords key (n + c)) = rw length-block (omega arith) in
    let more : take (suc i) (BlockWords key (n + c)) ≡ take i (BlockWords key (n + c)) ++ block_word key (n + c) i ∷ [] =
    rw add-one at (take_more (BlockWords key (n + c)) i 0 within)
    in
    rw (e, block, word, more, first_by_take key n c i (omega arith)) (append_assoc (first_words key n (BLOCK_WORDS * c)) (take i (BlockWords key (n + c))) (block_word key (n + c) i ∷ []))

whole_block : (key : List ℕ) (n c : ℕ) → first_words key n (BLOCK_WORDS * c + BLOCK_WORDS) ≡ first_words key n (BLOCK_WORDS * c) ++ BlockWords key (n + c)
whole_block key n c = first_by_take key n c BLOCK_WORDS (omega arith) ∙ ap (λ xs. first_words key n (BLOCK_WORDS * c) ++ xs) (take_all BLOCK_WORDS (BlockWords key (n + c)) (let long = length-block key (n + c) in omega arith))

concat_none : (key : List ℕ) (n : ℕ) → first_words key n (BLOCK_WORDS * 0) ≡ concat (front key n 0)
unfolding front first_words
concat_none key n = refl

concat_more : (key : List ℕ) (n c : ℕ) → concat (front key n (c + 1)) ≡ concat (front key n c) ++ BlockWords key (n + c)
unfolding front
concat_more key n c = rw (front_append, concat-append, append-nil) refl

-- the words of c blocks, in order
pub concat_front : (key : List ℕ) (n c : ℕ) → first_words key n (BLOCK_WORDS * c) ≡ concat (front key n c)
concat_front key n zero = concat_none key n
concat_front key n (suc c) =
    let e : BLOCK_WORDS * suc c ≡ BLOCK_WORDS * c + BLOCK_WORDS = omega arith in
    let f : suc c ≡ c + 1 = omega arith in
    rw (e, f, whole_block, concat_front key n c, concat_more) refl
