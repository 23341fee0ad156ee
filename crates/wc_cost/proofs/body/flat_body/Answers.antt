use Rattle.wc_model.proofs.Common.{◌≡◌, ◌+◌, ◌-◌, [], drop, length, sym, subst, arith, drop_all}
use Rattle.wc_model.specs.Language.Views.{lines_view}
use Rattle.wc_cost.specs.{IsLowerable, IsKeptFlat}
use Rattle.wc_cost.proofs.CallsLowered.{handed_on}
use Rattle.wc_cost.proofs.LabelsLowered.{lowerable_from, nothing_kept}
use Rattle.wc_names.proofs.Lists.{from_index}
use Rattle.wc_cost.proofs.body.flat_body.Goals as goal

pub loop-index-init : goal.loop-index-init
loop-index-init c = λ scope is may.
    let items = c.args.lines.now in
    let end : drop (length items) items ≡ [] = drop_all (length items) items (omega arith) in
    subst (λ xs. IsKeptFlat scope (lines_view xs) c.new-labels.result c.new-flat.result) (sym end) (nothing_kept scope c.new-labels.result c.new-flat.result c.new-labels.ensures c.new-flat.ensures)

pub loop-index-preserved-in_default : goal.loop-index-preserved-in_default
loop-index-preserved-in_default c = λ scope is may. absurd (omega (arith, c.in_default.ensures.lookup.3, c.loop-index.auto.index, c.loop-index-test.true))

pub loop-index-preserved : goal.loop-index-preserved
loop-index-preserved c = λ scope is may.
    let items = c.args.lines.now in
    let i = c.loop-index.index - 1 in
    let next : i + 1 ≡ c.loop-index.index = omega (arith, c.loop-index-test.true) in
    let cut = from_index items i c.in-Some.last.now c.in-Some.ensures.lookup.3.0 c.in-Some.ensures.lookup.1 in
    let here = subst (λ xs. IsLowerable scope (lines_view xs)) cut (lowerable_from scope i items may) in
    let so_far = subst (λ k. IsKeptFlat scope (lines_view (drop k items)) c.loop-index.labels c.loop-index.flat) (sym next) (c.loop-index.invariant scope is may) in
    subst (λ xs. IsKeptFlat scope (lines_view xs) c.put_line.new.labels c.put_line.new.flat) (sym cut) (handed_on _ _ c.put_line.result c.or_memory.result c.in_ok-or_memory.field-0 c.or_memory.ensures c.in_ok-or_memory.was c.put_line.ensures scope (lines_view (drop (i + 1) items)) is here so_far)

pub returns-clause-lowered : goal.returns-clause-lowered
returns-clause-lowered c = λ scope is may.
    let end : c.loop-index.index ≡ 0 = omega (arith, c.loop-index-test.false) in
    (subst (λ i. IsKeptFlat scope (lines_view (drop i c.args.lines.now)) c.loop-index.labels c.loop-index.flat) end (c.loop-index.invariant scope is may)).0
