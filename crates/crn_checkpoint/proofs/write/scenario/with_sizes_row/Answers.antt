use Rattle.std.proofs.Common.{rules, ◌≡◌, ◌<◌, ◌^◌, length, decimal}
use Rattle.std.specs.Fmt.{signed_decimal}
use lib.Signed.{mag}
use Rattle.crn_checkpoint.proofs.Rows.{counts_plain}
use Rattle.crn_checkpoint.proofs.write.scenario.with_sizes_row.Goals as goal

pub with_row-requires : goal.with_row-requires
with_row-requires c =
    let s = c.args.scenario.now in
    let m = s.model in
    let initial : c.as_bytes.result.now ≡ signed_decimal m.initial = search rules in
    let demands : c.as_bytes-2.result.now ≡ decimal (length m.demand.values) = search rules in
    let leads : c.as_bytes-3.result.now ≡ decimal (length m.lead.values) = search rules in
    let policies : c.as_bytes-4.result.now ≡ decimal (length s.policies) = search rules in
    let initial_low : mag m.initial < 2 ^ 127 = search rules in
    let demands_low : length m.demand.values < 2 ^ 64 = search rules in
    let leads_low : length m.lead.values < 2 ^ 64 = search rules in
    let policies_low : length s.policies < 2 ^ 64 = search rules in
    rw (initial, demands, leads, policies) (counts_plain m.initial (length m.demand.values) (length m.lead.values) (length s.policies) initial_low demands_low leads_low policies_low)
