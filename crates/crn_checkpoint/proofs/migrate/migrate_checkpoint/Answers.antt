use Rattle.crn_checkpoint.specs.declared.version.Version.TheVariants.{First, Second}
use Rattle.std.proofs.Common.{sym, refl, arith}
use Rattle.crn_checkpoint.proofs.Rows.{same_text}
use Rattle.crn_checkpoint.proofs.Judged.{handed, migration_refuses, old_text, new_text, migrated, not_migrated}
use Rattle.crn_checkpoint.proofs.migrate.migrate_checkpoint.Goals as goal

pub returns-in_err-cut-clause-refused : goal.returns-in_err-cut-clause-refused
returns-in_err-cut-clause-refused c = handed _ _ _ c.from_residual.ensures (migration_refuses _ c.args.bytes.now c.in_err-cut.ensures.reads)

pub returns-clause-migrated : goal.returns-clause-migrated
returns-clause-migrated c =
    let cut = c.in_ok-cut.cut in
    migrated (λ text. text.items) c.migrated.result cut.version cut.scenario cut.checkpoint.next cut.checkpoint.states.items c.args.bytes.now c.in_ok-cut.ensures.is_text c.migrated.ensures.old c.migrated.ensures.new

pub returns-clause-refused : goal.returns-clause-refused
returns-clause-refused c =
    let cut = c.in_ok-cut.cut in
    not_migrated (λ text. text.items) c.migrated.result cut.version cut.scenario cut.checkpoint.next cut.checkpoint.states.items c.args.bytes.now c.in_ok-cut.ensures.is_text c.migrated.ensures.old c.migrated.ensures.new

pub returns-clause-old : goal.returns-clause-old
returns-clause-old c = λ s next states h.
    let cut = c.in_ok-cut.cut in
    let read = c.in_ok-cut.ensures.reads First s next states h in
    old_text (λ text. text.items) c.migrated.result s cut.scenario next cut.checkpoint.next states cut.checkpoint.states.items h.ranges
    (same_text Second s cut.scenario next cut.checkpoint.next states cut.checkpoint.states.items read.1 read.2 read.3) (c.migrated.ensures.old (sym read.0))

pub returns-clause-new : goal.returns-clause-new
returns-clause-new c = λ s next states h.
    new_text (λ text. text.items) c.migrated.result (c.migrated.ensures.new (sym (c.in_ok-cut.ensures.reads Second s next states h).0))

pub read_cut-requires : goal.read_cut-requires
unfolding lib.Count.ones
read_cut-requires c = (refl, omega arith)
