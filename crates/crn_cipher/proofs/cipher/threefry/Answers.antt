use Rattle.std.proofs.Common.{rules, ◌≡◌, ◌∙◌, ap}
use Rattle.crn_cipher.specs.Cipher.{Threefry, Un}
use Rattle.crn_cipher.proofs.Inverse.{state_from, un_threefry, IsState}
use Rattle.crn_cipher.proofs.cipher.threefry.Goals as goal

pub returns : goal.returns
unfolding Threefry
returns c =
    let key : IsState c.args.key = state_from c.args.key (search rules) (search rules) in
    let ctr : IsState c.args.ctr = state_from c.args.ctr (search rules) (search rules) in
    let words : c.add_key-6.result ≡ Threefry c.args.key c.args.ctr = search rules in
    record { words = words; undone = ap (Un c.args.key) words ∙ un_threefry c.args.key key c.args.ctr ctr }
