use Rattle.std.proofs.Common.{◌≡◌, ◌≤◌, List, length, sym, subst, ap, ◌∙◌, arith}
use Rattle.wc_text_flat.proofs.Bodies.{lowered_length}
use Rattle.wc_text_flat.specs.{sources_of, worst_of, IsLowered, flat_length}
use Rattle.wc_model.specs.Definitions.{Lines, ProgramUnit, lines_view}
use Rattle.wc_model.specs.declared.code.Code.{Code}
use Rattle.wc_cost.specs.{IsLowerable, bounds_of}
use Rattle.wc_cost.proofs.units.lower_unit.Goals as goal

pub returns : goal.returns
returns c = λ scope is same may short small.
    let body = scope.unit.body in
    let bounds = bounds_of c.args.units.now in
    let seen : body ≡ lines_view c.deref.result.now = ap (λ (u : ProgramUnit). u.body) same ∙ ap lines_view (sym c.deref.ensures.value) in
    let flat = c.in_ok-flat.ensures.lowered scope is (subst (IsLowerable scope) seen may) in
    let lowered = subst (λ (b : Lines). IsLowered scope b c.in_ok-flat.flat.code) (sym seen) flat.0 in
    let code = c.into_lines-code.ensures.code in
    let count : length c.deref-2.result.now ≡ flat_length body = ap (λ (l : List Code). length l) (c.deref-2.ensures.value ∙ code) ∙ lowered_length scope body c.in_ok-flat.flat.code lowered in
    let few : length c.deref-2.result.now ≤ 65536 = omega (arith, count, short) in
    c.with_bound.ensures.measured bounds scope (subst (IsLowered scope body) (sym code) lowered) (c.into_lines-code.ensures.sources ∙ flat.1 ∙ ap sources_of (sym seen))
    (c.in_ok-steps.ensures.longest small few (sources_of body) ∙ ap (λ (l : List Code). (worst_of bounds l (sources_of body)).steps) c.deref-2.ensures.value) (sym (ap (λ (u : ProgramUnit). u.line) same))
