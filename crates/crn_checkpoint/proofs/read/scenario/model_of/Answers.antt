use Rattle.std.proofs.Common.{◌∙◌, sym, subst, codes}
use Rattle.std.proofs.lemmas.Result.{IfOk-weaker}
use Rattle.crn_stock.specs.Models.{IsModel}
use Rattle.crn_checkpoint.proofs.Rows.{demands_small, leads_small, returned_small, handed_on, same_model_parts, answered}
use Rattle.crn_checkpoint.proofs.read.scenario.model_of.Goals as goal

pub returns-in_err-demand-clause-model : goal.returns-in_err-demand-clause-model
returns-in_err-demand-clause-model c = λ s next states h.
    let memory = c.in_err-demand.ensures (codes "demand") s.model.demand h.ranges.scenario.demand (demands_small s h.ranges.scenario) (c.args.layout.now.is_demand s next states h) in
    handed_on _ _ _ c.from_residual.ensures memory

pub returns-in_err-lead-clause-model : goal.returns-in_err-lead-clause-model
returns-in_err-lead-clause-model c = λ s next states h.
    let memory = c.in_err-lead.ensures (codes "lead") s.model.lead h.ranges.scenario.lead (leads_small s h.ranges.scenario) (c.args.layout.now.is_lead s next states h) in
    handed_on _ _ _ c.from_residual-in_err-lead.ensures memory

pub returns-in_err-returns-clause-model : goal.returns-in_err-returns-clause-model
returns-in_err-returns-clause-model c = λ s next states h.
    let memory = c.in_err-returns.ensures.reads s.model.returns h.ranges.scenario.returns (returned_small s h.ranges.scenario) (c.args.layout.now.is_returned s next states h) in
    handed_on _ _ _ c.from_residual-in_err-returns.ensures memory

pub returns-clause-model : goal.returns-clause-model
returns-clause-model c = λ s next states h.
    let in_range = h.ranges.scenario in
    let demand = c.in_ok-demand.ensures (codes "demand") s.model.demand in_range.demand (demands_small s in_range) (c.args.layout.now.is_demand s next states h) in
    let lead = c.in_ok-lead.ensures (codes "lead") s.model.lead in_range.lead (leads_small s in_range) (c.args.layout.now.is_lead s next states h) in
    let returns = c.in_ok-returns.ensures.reads s.model.returns in_range.returns (returned_small s in_range) (c.args.layout.now.is_returned s next states h) in
    let same = same_model_parts c.sizes_of.result _ _ _ s.model demand lead returns (c.sizes_of.ensures c.args.layout.now.version s next states h) in
    answered _ _ _ same (c.model_with.ensures.model (subst IsModel (sym same) in_range.model))

pub returns-clause-tells : goal.returns-clause-tells
returns-clause-tells c =
    IfOk-weaker c.model_with.result _ _ (λ m same first. same ∙ c.in_ok-returns.ensures.none (c.args.layout.now.none_returned first)) c.model_with.ensures.returns
