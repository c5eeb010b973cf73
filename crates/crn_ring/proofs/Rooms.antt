-- Room for blocks, and what is published and taken.
use Rattle.std.proofs.Common.{◌≡◌, ℕ, ◌+◌, ◌-◌, ◌*◌, ◌/◌, ◌<◌, ◌≤◌, ◌==◌, false, List, [], ◌∷◌, ◌++◌, length, get_or-set_same, get_or-set_other, refl, sym, ap, ◌∙◌, subst, arith, length-append, min, inl, inr}
use Rattle.std.specs.Prelude.{slice_index, slice_set, Some}
use Rattle.crn_cipher.specs.declared.TheConstants.{BLOCK_WORDS}
use Rattle.crn_proto.specs.declared.spec.RingSpec.{RingSpec}
use Rattle.crn_proto.specs.declared.actor_parts.ProducerPart.{ProducerPart}
use Rattle.crn_proto.specs.declared.actor_parts.ReaderPart.{ReaderPart}
use Rattle.crn_proto.specs.Ring.{left_mark, LoadGate, ProducerMay, producer_after, Publish, ReaderMay, reader_after, LoadCursor, Take}
use Rattle.crn_proto.specs.Chains.{ProducerReaches, ReaderReaches}
use Rattle.crn_proto.proofs.Chains.{reaches_join, reaches_more}
use Rattle.crn_steps.specs.declared.view.View.{View}
use Rattle.crn_ring.specs.Gates.{HaveRoom, Loaded, Passes, Remembers}
use Rattle.crn_ring.specs.Inner.Gates.{LeastOf}
use Rattle.crn_steps.specs.Plays.{by_producer}
use Rattle.crn_ring.specs.Inner.Plays.{Gauged}
use Rattle.crn_ring.specs.Parts.{IsFull, Publishes, Takes, TakesShown}
use Rattle.crn_ring.specs.Inner.Rooms.{HasFound}
use Rattle.crn_ring.proofs.Gauging.{begins_again, least_room, loaded_more, gauged_same}
use Rattle.crn_ring.proofs.Remembering.{after_full, all_fit}

-- the count remembered leaves room for all
pub found_before : (spec : RingSpec) (p : ProducerPart) (n m least : ℕ) → p.published ≡ n → 0 < m → n + m ≤ least + spec.size → Remembers spec.size n spec.readers p.gates least → HasFound spec p p m m
found_before spec p n m least counts some fits old = record {
  some = some;
  at_most = omega arith;
  same = refl;
  room = λ r h ne. let low = old.low r h in omega arith;
  until_full = λ few. absurd (omega arith);
}

-- all gates were loaded
pub found_now : (spec : RingSpec) (v v' : View) (n m least : ℕ) → v.producer.published ≡ n → 0 < m → n + m < left_mark → Gauged spec.size n spec.readers v v' → LeastOf spec.readers v'.producer.gates least
    → HasFound spec v.producer v'.producer m (min m ((least + spec.size) - n))
found_now spec v v' n m least counts some small g l =
    let room : n < least + spec.size = least_room spec.size n spec.readers least v'.producer.gates (omega arith) g.passed l in
    let stays : v'.producer.published ≡ v.producer.published = ap (λ (u : View). u.producer.published) g.same in
    let steps : v'.producer.steps ≡ v.producer.steps + spec.readers = ap (λ (u : View). u.producer.steps) g.same in record {
      some = omega arith;
      at_most = omega arith;
      same = ap (λ (u : View). u.producer) g.same ∙ (λ i. record v.producer { gates = v'.producer.gates; loads = v'.producer.loads; steps = sym steps i });
      room = λ r h ne. let low = l.low r h in omega arith;
      until_full = λ few. (
        g.loaded,
        elim l.met [
          | inl e ↦ absurd (omega arith)
          | inr there ↦ (there.0, there.1, (let e = there.2 in omega arith))
        ],
      );
    }

-- what was found was stored and published
pub publishes : (spec : RingSpec) (p found stored p' : ProducerPart) (m count : ℕ) → p.ended ≡ false → p.stored ≡ 0 → HasFound spec p found m count → ProducerReaches spec p spec.readers found
    → stored ≡ record found { stored = found.stored + BLOCK_WORDS * count; steps = found.steps + BLOCK_WORDS * count } → ProducerReaches spec found (BLOCK_WORDS * count) stored
    → p' ≡ producer_after stored (Publish count) 0 → Publishes spec p p' m count
publishes spec p found stored p' m count running rests f looked is stores last =
    let published_found : found.published ≡ p.published = ap (λ (z : ProducerPart). z.published) f.same in
    let published_stored : stored.published ≡ found.published = ap (λ (z : ProducerPart). z.published) is in
    let published_last : p'.published ≡ stored.published + count = ap (λ (z : ProducerPart). z.published) last in
    let words_found : found.stored ≡ p.stored = ap (λ (z : ProducerPart). z.stored) f.same in
    let words : stored.stored ≡ found.stored + BLOCK_WORDS * count = ap (λ (z : ProducerPart). z.stored) is in
    let ended : stored.ended ≡ false = ap (λ (z : ProducerPart). z.ended) is ∙ ap (λ (z : ProducerPart). z.ended) f.same ∙ running in
    let gates : p'.gates ≡ found.gates = ap (λ (z : ProducerPart). z.gates) last ∙ ap (λ (z : ProducerPart). z.gates) is in
    let loads : p'.loads ≡ found.loads = ap (λ (z : ProducerPart). z.loads) last ∙ ap (λ (z : ProducerPart). z.loads) is in record {
      some = f.some;
      at_most = f.at_most;
      published = omega arith;
      running = ap (λ (z : ProducerPart). z.ended) last ∙ ended;
      once = record {
        stored = stored;
        storing = reaches_join (ProducerMay spec) producer_after p found stored spec.readers (BLOCK_WORDS * count) looked stores;
        not_yet = published_stored ∙ published_found;
        may = (ended, omega arith, f.some);
        published = last;
      };
      until_full = λ few. let full = f.until_full few in let old = full.0 in (
        record { entries = old.entries; added = loads ∙ old.added; one_each = old.one_each; in_order = λ r h. old.in_order r h ∙ (λ i. Some (r, slice_index (sym gates i) r)) },
        (full.1.0, full.1.1, full.1.2 ∙ (λ i. slice_index (sym gates i) full.1.0 + spec.size)),
      );
    }

-- what had been seen was read and taken
pub takes_shown : (q read q' : ReaderPart) (room count : ℕ) (ns : List ℕ) → q.left ≡ false → length q.read ≡ 0 → count ≡ min room (q.seen - q.taken) → 0 < count → ReaderReaches q (BLOCK_WORDS * count) read
    → length ns ≡ BLOCK_WORDS * count → read ≡ record q { read = q.read ++ ns; steps = q.steps + length ns } → q' ≡ reader_after read (Take count) 0 → TakesShown q q' room count
takes_shown q read q' room count ns here none is some reads long reading last =
    let taken_read : read.taken ≡ q.taken = ap (λ (z : ReaderPart). z.taken) reading in
    let taken_last : q'.taken ≡ read.taken + count = ap (λ (z : ReaderPart). z.taken) last in
    let read_read : length read.read ≡ length (q.read ++ ns) = ap (λ (z : ReaderPart). length z.read) reading in record {
      at_most = is;
      taken = omega arith;
      seen = ap (λ (z : ReaderPart). z.seen) last ∙ ap (λ (z : ReaderPart). z.seen) reading;
      same_end = ap (λ (z : ReaderPart). z.seen_end) last ∙ ap (λ (z : ReaderPart). z.seen_end) reading;
      none = λ e. absurd (omega arith);
      once = λ _. record {
        read = read;
        reading = reads;
        not_yet = taken_read;
        may = (ap (λ (z : ReaderPart). z.left) reading ∙ here, omega (arith, length-append q.read ns), some);
        taken = last;
      };
    }

-- what a look has shown was taken
pub takes : (q looked q' : ReaderPart) (cursor room count : ℕ) → ReaderMay q LoadCursor → looked ≡ reader_after q LoadCursor cursor → (cursor == 2 * q.taken + 1) ≡ false → q.taken < cursor / 2 → q.seen ≤ cursor / 2 → 0 < room
    → TakesShown looked q' room count → Takes q q' room count
takes q looked q' cursor room count may look running more seen places shown =
    let seen_looked : looked.seen ≡ cursor / 2 = ap (λ (z : ReaderPart). z.seen) look in
    let taken_looked : looked.taken ≡ q.taken = ap (λ (z : ReaderPart). z.taken) look in
    let is : count ≡ min room (looked.seen - looked.taken) = shown.at_most in
    let seen_last : q'.seen ≡ looked.seen = shown.seen in
    let taken_last : q'.taken ≡ looked.taken + count = shown.taken in
    let some : 0 < count = omega arith in
    let once = shown.once some in record {
      some = some;
      at_most = omega arith;
      taken = omega arith;
      running = shown.same_end ∙ ap (λ (z : ReaderPart). z.seen_end) look ∙ running;
      seen = omega arith;
      once = record {
        may_look = may;
        cursor = cursor;
        read = once.read;
        reading = subst (λ (z : ReaderPart). ReaderReaches z (BLOCK_WORDS * count) once.read) look once.reading;
        shown = seen_last ∙ seen_looked;
        not_yet = once.not_yet ∙ taken_looked;
        may = once.may;
        taken = once.taken;
      };
    }

-- reader r had no room
pub is_full : (spec : RingSpec) (v u v' : View) (n r taken : ℕ) → n ≡ v.producer.published → r < spec.readers → n ≡ taken + spec.size → Gauged spec.size n r v u → r < length u.producer.gates
    → v' ≡ by_producer (LoadGate r) taken u → IsFull spec v.producer v'.producer r taken
is_full spec v u v' n r taken counts below full g inside is =
    let part : v'.producer ≡ producer_after u.producer (LoadGate r) taken = ap (λ (x : View). x.producer) is in
    let gates : v'.producer.gates ≡ slice_set u.producer.gates r taken = ap (λ (x : View). x.producer.gates) is in
    let loads : v'.producer.loads ≡ u.producer.loads ++ (r, taken) ∷ [] = ap (λ (x : View). x.producer.loads) is in record {
      below = below;
      loaded = subst (Loaded (r + 1) v.producer) (sym part) (loaded_more r taken v.producer u.producer g.loaded inside);
      passed = λ q h. subst (λ (z : ℕ × ℕ). Passes spec.size z.0 z.1)
          (λ i. (counts i, sym (ap (λ (gs : List ℕ). slice_index gs q) gates ∙ get_or-set_other u.producer.gates r q taken 0 (λ e. omega arith)) i)) (g.passed q h);
      gate = ap (λ (gs : List ℕ). slice_index gs r) gates ∙ get_or-set_same u.producer.gates r taken 0 inside;
      full = sym counts ∙ full;
      nothing_stored = part ∙ ap (λ (x : View). x.producer) (gauged_same spec.size n r taken v u g)
          ∙ (λ i. record v.producer { gates = sym gates i; loads = sym loads i; steps = v.producer.steps + (r + 1) });
    }

-- what is remembered then
pub remembers_full : (spec : RingSpec) (v u v' : View) (n r taken least : ℕ) → n ≤ left_mark → r < spec.readers → n ≡ taken + spec.size → Gauged spec.size n r v u → r < length u.producer.gates
    → v' ≡ by_producer (LoadGate r) taken u → Remembers spec.size n spec.readers v.producer.gates least → Remembers spec.size n spec.readers v'.producer.gates taken
remembers_full spec v u v' n r taken least small below full g inside is old =
    let gates : v'.producer.gates ≡ slice_set u.producer.gates r taken = ap (λ (x : View). x.producer.gates) is in
    subst (λ (gs : List ℕ). Remembers spec.size n spec.readers gs taken) (sym gates) (after_full spec.size n spec.readers r taken least v.producer.gates u.producer.gates small below inside full old g.passed g.kept)

-- the producer begins with the first reader again then
pub passed_full : (spec : RingSpec) (v u v' : View) (n r taken : ℕ) → v.spec ≡ spec → v.producer.published ≡ n → n < left_mark → n ≡ taken + spec.size → Gauged spec.size n r v u → v' ≡ by_producer (LoadGate r) taken u → v'.passed ≡ 0
passed_full spec v u v' n r taken here counts small full g is =
    let slots : u.spec.size ≡ spec.size = ap (λ (x : View). x.spec.size) g.same ∙ ap (λ (z : RingSpec). z.size) here in
    let published : u.producer.published ≡ n = ap (λ (x : View). x.producer.published) g.same ∙ counts in
    ap (λ (x : View). x.passed) is ∙ begins_again u.spec u.producer u.passed r taken (omega arith) (omega arith)

-- the moves of a publication
pub publish_moves : (spec : RingSpec) (p found stored p' : ProducerPart) (count : ℕ) → ProducerReaches spec p spec.readers found → ProducerReaches spec found (BLOCK_WORDS * count) stored → ProducerReaches spec stored 1 p'
    → ProducerReaches spec p (spec.readers + BLOCK_WORDS * count + 1) p'
publish_moves spec p found stored p' count a b c =
    reaches_join (ProducerMay spec) producer_after p stored p' (spec.readers + BLOCK_WORDS * count) 1 (reaches_join (ProducerMay spec) producer_after p found stored spec.readers (BLOCK_WORDS * count) a b) c

-- and of a taking of what a look has shown
pub take_moves : (q looked q' : ReaderPart) (count : ℕ) → ReaderReaches q 1 looked → ReaderReaches looked (BLOCK_WORDS * count + 1) q' → ReaderReaches q (BLOCK_WORDS * count + 2) q'
take_moves q looked q' count a b = reaches_more ReaderMay reader_after q q' (1 + (BLOCK_WORDS * count + 1)) (BLOCK_WORDS * count + 2) (omega arith) (reaches_join ReaderMay reader_after q looked q' 1 (BLOCK_WORDS * count + 1) a b)

-- where each gate has room for all, the count remembered leaves no fewer
pub never_late : (spec : RingSpec) (p : ProducerPart) (n m least : ℕ) → p.published ≡ n → n + m ≤ left_mark → least + spec.size < n + m → Remembers spec.size n spec.readers p.gates least → HaveRoom spec p m → ⊥
never_late spec p n m least counts small late old room = let fits = all_fit spec.size n m spec.readers least p.gates small old (λ r h ne. let near = room r h ne in omega arith) in omega arith
