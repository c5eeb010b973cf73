use Rattle.std.proofs.Common.{◌∙◌, ◌^◌, List, ℕ, [], get_or, map, ap, arith}
use Rattle.crn_checkpoint.proofs.Lengths.{each_below, lengths_of, sum_of}
use Rattle.crn_checkpoint.proofs.Rows.{values_read, weights_read, no_fault, same_weighted, undrawn_memory, handed_on}
use Rattle.crn_checkpoint.proofs.read.scenario.weights_of.Goals as goal

pub returns-in_err-new : goal.returns-in_err-new
returns-in_err-new c = λ name d none small e.
    let lengths = lengths_of d.values d.weights none in
    let first = ap (map (λ (r : List (List ℕ)). get_or r 1 [])) e ∙ values_read name d.values d.weights lengths in
    let second = ap (map (λ (r : List (List ℕ)). get_or r 2 [])) e ∙ weights_read name d.values d.weights lengths in
    let values = c.as_slice.ensures.value ∙ c.in_ok-values.ensures d.values small first in
    let weights = c.as_slice-2.ensures.value ∙ c.in_ok-weights.ensures d.weights (each_below d.weights (2 ^ 32) (omega (arith, sum_of d.values d.weights none))) second in
    handed_on _ _ _ c.from_residual-in_err-new.ensures (undrawn_memory _ (λ other. no_fault _ _ d.values d.weights _ values weights none (c.in_err-new.ensures.refused other)))

pub returns : goal.returns
returns c = λ name d none small e.
    let lengths = lengths_of d.values d.weights none in
    let first = ap (map (λ (r : List (List ℕ)). get_or r 1 [])) e ∙ values_read name d.values d.weights lengths in
    let second = ap (map (λ (r : List (List ℕ)). get_or r 2 [])) e ∙ weights_read name d.values d.weights lengths in
    let values = c.as_slice.ensures.value ∙ c.in_ok-values.ensures d.values small first in
    let weights = c.as_slice-2.ensures.value ∙ c.in_ok-weights.ensures d.weights (each_below d.weights (2 ^ 32) (omega (arith, sum_of d.values d.weights none))) second in
    c.in_ok-new.ensures.made ∙ same_weighted d _ _ values weights
