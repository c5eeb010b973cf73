-- What an engine answers, once its text is made.
use Rattle.std.proofs.Common.{◌≡◌, ℕ, List, Option, Result, Ok, Err, IfOk, IfErr, OnOk, OnErr, sym, subst, IsErr, IsErrAnd}
use Rattle.std.specs.Io.KnownBytes.{Appends}
use Rattle.crn_engines.specs.Bytes.{AppendsFront, Wrote, WroteFrontOf}

module _ {T E : Type 0} where
  -- what holds of a fault holds of a result that hands it on
  pub handed : (r : Result T E) (e : E) (P : E → Type 0) → IsErr r × IsErrAnd r (λ f. f ≡ e) → P e → IfErr r P
  handed (Ok x) e P h holds = absurd (cc h.0)
  handed (Err f) e P h holds = subst P (sym h.1) holds

module _ (Made : List ℕ → Type 0) (held held' : Option (List ℕ)) (text : List ℕ) (made : Made text) where
  -- the text that was made went out
  pub sent : {T E : Type 0} (r : Result T E) → OnOk r (Appends held held' text) → OnOk r (Wrote Made held held')
  sent (Ok x) whole = record { text = text; made = made; written = whole }
  sent (Err e) whole = tt

  -- or a front of it did
  pub sent_front : {T E : Type 0} (r : Result T E) (P : E → Type 0) → OnErr r (AppendsFront held held' text) → IfErr r (λ e. P e → WroteFrontOf Made held held')
  sent_front (Ok x) P front = tt
  sent_front (Err e) P front = λ _. record { text = text; made = made; written = front }

-- what follows from two facts of an answer
pub both_ok : {T E : Type 0} (r : Result T E) (P Q R : T → Type 0) → ((t : T) → P t → Q t → R t) → IfOk r P → IfOk r Q → IfOk r R
both_ok (Ok t) P Q R join p q = join t p q
both_ok (Err e) P Q R join p q = tt
