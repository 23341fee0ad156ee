use Rattle.std.proofs.Common.{◌≡◌, ◌++◌, suc, length, vec_len, ap, sym, ◌∙◌, arith, rules}
use Rattle.std.proofs.lemmas.List.{length-map}
use Rattle.wc_model.specs.Language.Views.{text_view, unit_view}
use Rattle.wc_model.specs.declared.source.Source.{Source}
use Rattle.wc_names.proofs.HandedOn.{on_ok}
use Rattle.wc_view_changes.specs.{declared_of, lines_between}
use Rattle.wc_view_changes.proofs.Wholes.{none_reported, other_side, reported}
use Rattle.wc_view_changes.proofs.report.describe_program.Goals as goal

pub returns-clause-lines : goal.returns-clause-lines
returns-clause-lines c =
    let other = c.args.other.now.source in
    let source = c.args.own.now.source in
    let v : vec_len c.source.result.now.units ≡ length c.source.result.now.units.items = search rules in
    let w : vec_len c.source-2.result.now.units ≡ length c.source-2.result.now.units.items = search rules in
    let counted : length source.units.items ≡ suc c.in-Some.unit =
    ap (λ (s : Source). length s.units.items) (sym c.source.ensures.source) ∙ (let a = c.in-Some.ensures.0 in let b = c.in-Some.ensures.1 in let l = c.len.ensures in omega (arith, a, b, l, v))
    in
    let other_counted : length (text_view other) ≡ c.len-2.result =
    length-map other.units.items unit_view ∙ ap (λ (s : Source). length s.units.items) (sym c.source-2.ensures.source) ∙ sym w ∙ sym c.len-2.ensures
    in
    on_ok c.describe_unit.result
    (λ said. reported c.args.pass (text_view other) source c.in-Some.unit c.checked_sub-other.result c.args.out.now.items c.describe_unit.new.out.items counted
    (other_side (text_view other) c.len-2.result c.checked_sub-other.result other_counted c.checked_sub-other.ensures)
    (λ side before u h at. said side before u h at ∙ ap (λ p. c.args.out.now.items ++ lines_between c.args.pass side before u p (declared_of u)) c.new-names.ensures.items))
    c.describe_unit.ensures.lines

pub returns-in_default-clause-lines : goal.returns-in_default-clause-lines
returns-in_default-clause-lines c =
    let source = c.args.own.now.source in
    let v : vec_len c.source.result.now.units ≡ length c.source.result.now.units.items = search rules in
    let counted : length source.units.items ≡ c.len.result = ap (λ (s : Source). length s.units.items) (sym c.source.ensures.source) ∙ sym v ∙ sym c.len.ensures in
    none_reported c.args.pass (text_view c.args.other.now.source) source c.args.out.now.items c.len.result counted (λ past. c.in_default.ensures {u = tt} past)
