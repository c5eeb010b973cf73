-- What a parse found, from its name and its rows.
use Rattle.std.proofs.Common.{◌≡◌, Option, Some, None, option_map, unwrap_or, ap, ap₂, sym}

some_of : {X : Type 0} (a b : X) → Some a ≡ Some b → b ≡ a
some_of {X} a b g = sym (ap (λ (o : Option X). unwrap_or o a) g)

abbrev both : {N R : Type 0} → N → R → Option (N × R)
both n r = Some (n, r)

abbrev second : {N R : Type 0} → N × R → R
second q = q.1

abbrev paired : {B N R : Type 0} → (B → N) → (B → R) → B → N × R
paired name rows b = (name b, rows b)

pub named_rows : {B N R : Type 0} (met : Option B) (name : B → N) (rows : B → R) (n : N) (r : R) → Some n ≡ option_map name met
    → Some r ≡ option_map second (option_map (paired name rows) met) → option_map (paired name rows) met ≡ Some (n, r)
named_rows None name rows n r e f = cc
named_rows (Some b) name rows n r e f = ap₂ both (some_of n (name b) e) (some_of r (rows b) f)
