use Rattle.std.proofs.Common.{◌∙◌, ◌≤◌, ap, sym, subst, length}
use Rattle.crn_stock.specs.Models.{ModelParts, total, ScenarioParts}
use Rattle.crn_sequential.specs.Runs.{StandsBefore}
use Rattle.crn_checkpoint.specs.Reading.{CanTell}
use Rattle.crn_checkpoint.specs.declared.version.Version.{Version}
use Rattle.crn_checkpoint.proofs.Rows.{handed_on, is_version, rows_in, next_read}
use Rattle.crn_checkpoint.proofs.read.cut.Cut.from_rows.Goals as goal

pub returns-in_err-policies-clause-reads : goal.returns-in_err-policies-clause-reads
returns-in_err-policies-clause-reads c = λ v s next states given.
    let version = is_version v _ _ (c.version_of.ensures v s next states given) c.in-Some.is in
    let layout = c.of-layout.ensures in
    let h = rows_in v _ s next states _ _ (version ∙ sym layout.version) layout.rows given in
    let model = c.in_ok-model.ensures.model s next states h in
    let is = next_read _ s next states c.args.rows.now given _ c.natural_in-next.ensures in
    handed_on _ _ _ c.from_residual-in_err-policies.ensures (c.in_err-policies.ensures.reads s next states h model is)

pub returns-clause-reads : goal.returns-clause-reads
returns-clause-reads c = λ v s next states given.
    let version = is_version v _ _ (c.version_of.ensures v s next states given) c.in-Some.is in
    let layout = c.of-layout.ensures in
    let h = rows_in v _ s next states _ _ (version ∙ sym layout.version) layout.rows given in
    let model = c.in_ok-model.ensures.model s next states h in
    let is = next_read _ s next states c.args.rows.now given _ c.natural_in-next.ensures in
    let read = c.in_ok-policies.ensures.reads s next states h model is in
    let key = c.key_of.ensures v s next states given in
    let made = c.new.ensures in (
      version,
      record {
        key = sym (ap (λ (x : ScenarioParts). x.key) made ∙ key);
        model = sym (ap (λ (x : ScenarioParts). x.model) made ∙ model);
        policies = sym (ap (λ (x : ScenarioParts). x.policies) made ∙ read.0);
      },
      sym is,
      sym read.1,
    )

pub invariant_of-result-clause-of : goal.invariant_of-result-clause-of
invariant_of-result-clause-of c =
    let made = c.new.ensures in
    record {
      count = c.in_ok-policies.ensures.count ∙ sym (ap (λ (x : ScenarioParts). length x.policies) made);
      stand = λ i v e. subst (λ (m : ModelParts). StandsBefore m c.natural_in-next.result v) (sym (ap (λ (x : ScenarioParts). x.model) made)) (c.in_ok-policies.ensures.stand i v e);
    }

pub invariant_of-result-clause-next : goal.invariant_of-result-clause-next
invariant_of-result-clause-next c =
    subst (λ (m : ModelParts). c.natural_in-next.result ≤ total m) (sym (ap (λ (x : ScenarioParts). x.model) c.new.ensures)) c.in_ok-policies.ensures.next

pub invariant_of-result-clause-tells : goal.invariant_of-result-clause-tells
invariant_of-result-clause-tells c =
    let told = subst (λ (v : Version). CanTell v c.in_ok-model.model) c.of-layout.ensures.version c.in_ok-model.ensures.tells in
    subst (λ (m : ModelParts). CanTell c.in-Some.version m) (sym (ap (λ (x : ScenarioParts). x.model) c.new.ensures)) told
