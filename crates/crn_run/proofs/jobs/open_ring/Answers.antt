use Rattle.std.proofs.Common.{rules, ◌≡◌, ◌≤◌, length, ap, arith, alloc_error}
use Rattle.crn_limits.specs.declared.TheConstants.{BLOCK_LIMIT}
use Rattle.crn_stock.specs.Models.{total}
use Rattle.crn_proto.specs.declared.fault.RingFault.TheVariants.{Memory}
use Rattle.crn_proto.specs.declared.spec.RingSpec.{RingSpec}
use Rattle.crn_proto.specs.Opening.{CanOpen, RefusesRing}
use Rattle.crn_run.proofs.Opening.{only_memory}
use Rattle.crn_run.proofs.jobs.open_ring.Goals as goal

pub unreachable-requires : goal.unreachable-requires
unreachable-requires c =
    let spec : RingSpec = record { size = c.ring.result; readers = length c.policies.result.now; id = record { key = c.key.result; first = c.args.first; total = c.args.upto } } in
    let refused : RefusesRing spec c.in-Err.field-0 = search rules in
    let below : c.args.upto ≤ BLOCK_LIMIT = omega (arith, c.requires, ap total c.model.ensures, c.total.ensures.value, c.total.ensures.limit) in
    let can : CanOpen spec = record { size = c.ring.ensures.size; readers = (c.policies.ensures.some, c.policies.ensures.few); stream = (c.requires.0, below) } in
    let is : c.in-Err.field-0 ≡ Memory alloc_error = only_memory spec c.in-Err.field-0 can refused in
    search (rules, is)
