use Rattle.wc_model.proofs.Common.{◌<◌, ◌≤◌, List, length, option_map, arith, ap, sym, subst, ◌∙◌, slice_get, slice_index_or, IsNonDecreasingBy}
use Rattle.wc_model.specs.Definitions.{variables_of, Name, name_of}
use Rattle.wc_names.specs.RepresentsText.{first_place}
use Rattle.wc_names.specs.declared.variable.Variable.{Variable as Row}
use Rattle.wc_names.proofs.Lists.{got_some}
use Rattle.wc_names.proofs.VariablePlaces.{found_is, located, none_started, rows_rise}
use Rattle.wc_names.proofs.carry.variable_with.Goals as goal

pub returns-in_err-at : goal.returns-in_err-at
returns-in_err-at c = λ before u entry h least there.
    let none = c.in_err-at.ensures in
    let rise = subst (IsNonDecreasingBy (λ (row : Row). row.first)) (sym c.deref.ensures.value) (rows_rise before (first_place u) (variables_of u) c.args.table.now.rows.items h.rows) in
    absurd (none_started before (first_place u) (variables_of u) c.args.table.now.rows.items c.args.number entry h.rows least there
    (λ j d l. subst (λ rows. j < length rows → c.args.number < (slice_index_or rows j d).first) c.deref.ensures.value (c.count_at_or_before.ensures.following rise j d (omega (arith, none))) l))

pub returns-in_err-name : goal.returns-in_err-name
returns-in_err-name c = λ before u entry h least there.
    let some = c.in_ok-at.ensures in
    let one = some.0 in
    let at = some.1 in
    let bound = c.count_at_or_before.ensures.bound in
    let rise = subst (IsNonDecreasingBy (λ (row : Row). row.first)) (sym c.deref.ensures.value) (rows_rise before (first_place u) (variables_of u) c.args.table.now.rows.items h.rows) in
    let size = ap length c.deref.ensures.value in
    let place =
    located before (first_place u) (variables_of u) c.args.table.now.rows.items c.args.number entry h.rows h.different least there c.in_ok-at.at (omega (arith, one, at, bound, size))
    (λ j d l. subst (λ rows. (slice_index_or rows j d).first ≤ c.args.number) c.deref.ensures.value (c.count_at_or_before.ensures.before rise j d (omega (arith, l, one, at))))
    (λ j d l m. subst (λ rows. j < length rows → c.args.number < (slice_index_or rows j d).first) c.deref.ensures.value (c.count_at_or_before.ensures.following rise j d (omega (arith, l, one, at))) m)
    in
    let none = sym (ap (option_map (λ name. name_of name.now)) c.in_err-name.was) ∙ c.at.ensures ∙ ap (λ (ns : List Name). slice_get ns c.in_ok-at.at) h.names ∙ place.name_there in
    absurd (cc)

pub returns : goal.returns
returns c = λ before u entry h least there.
    let some = c.in_ok-at.ensures in
    let one = some.0 in
    let at = some.1 in
    let bound = c.count_at_or_before.ensures.bound in
    let rise = subst (IsNonDecreasingBy (λ (row : Row). row.first)) (sym c.deref.ensures.value) (rows_rise before (first_place u) (variables_of u) c.args.table.now.rows.items h.rows) in
    let size = ap length c.deref.ensures.value in
    let place =
    located before (first_place u) (variables_of u) c.args.table.now.rows.items c.args.number entry h.rows h.different least there c.in_ok-at.at (omega (arith, one, at, bound, size))
    (λ j d l. subst (λ rows. (slice_index_or rows j d).first ≤ c.args.number) c.deref.ensures.value (c.count_at_or_before.ensures.before rise j d (omega (arith, l, one, at))))
    (λ j d l m. subst (λ rows. j < length rows → c.args.number < (slice_index_or rows j d).first) c.deref.ensures.value (c.count_at_or_before.ensures.following rise j d (omega (arith, l, one, at))) m)
    in
    found_is before u c.args.table.now c.args.number entry c.in_ok-at.at (name_of c.in_ok-name.name.now) c.in_ok-row.row.now h place
    (sym (ap (option_map (λ name. name_of name.now)) c.in_ok-name.was) ∙ c.at.ensures)
    (ap (λ rows. slice_get rows c.in_ok-at.at) (sym c.deref-2.ensures.value) ∙ got_some c.deref-2.result.now c.in_ok-at.at c.in_ok-row.row.now c.in_ok-row.ensures.lookup.3.0 c.in_ok-row.ensures.lookup.1)
