use Rattle.std.proofs.Common.{rules, ◌≡◌, ◌∙◌, ap}
use Rattle.crn_cipher.specs.Cipher.{Threefry, Un}
use Rattle.crn_cipher.proofs.Inverse.{state_from, threefry_un, IsState}
use Rattle.crn_cipher.proofs.cipher.unthreefry.Goals as goal

pub returns : goal.returns
unfolding Un
returns c =
    let key : IsState c.args.key = state_from c.args.key (search rules) (search rules) in
    let out : IsState c.args.out = state_from c.args.out (search rules) (search rules) in
    let undone : c.take_key-6.result ≡ Un c.args.key c.args.out = search rules in
    record { counter = undone; redone = ap (Threefry c.args.key) undone ∙ threefry_un c.args.key key c.args.out out }
