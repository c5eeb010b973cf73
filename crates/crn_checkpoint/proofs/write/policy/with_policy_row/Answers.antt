use Rattle.std.proofs.Common.{rules, ◌≡◌}
use Rattle.std.specs.Fmt.{signed_decimal}
use Rattle.crn_checkpoint.proofs.Rows.{policy_plain}
use Rattle.crn_checkpoint.proofs.write.policy.with_policy_row.Goals as goal

pub with_row-requires : goal.with_row-requires
with_row-requires c =
    let p = c.args.policy.now in
    let name : c.as_bytes.result.now ≡ p.name = search rules in
    let low : c.as_bytes-2.result.now ≡ signed_decimal p.low = search rules in
    let high : c.as_bytes-3.result.now ≡ signed_decimal p.high = search rules in
    rw (name, low, high) (policy_plain p c.requires.range c.requires.name)
