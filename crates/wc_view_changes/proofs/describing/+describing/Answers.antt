use Rattle.wc_model.proofs.Common.{◌≡◌, ◌++◌, ◌∷◌, [], Some, ap, sym, subst, ◌∙◌, map, arith, common_steps, flat_map}
use Rattle.std.proofs.lemmas.List.{append_assoc}
use Rattle.wc_model.specs.Definitions.{name_of, type_of, text_view, unit_view}
use Rattle.wc_model.specs.Language.Store as store
use Rattle.wc_model.specs.declared.operand.Word.{Word}
use Rattle.wc_model.specs.declared.source.Decl.{Decl}
use Rattle.wc_model.specs.declared.source.Unit.{Unit as CodeUnit}
use Rattle.wc_names.proofs.HandedOn.{on_ok}
use Rattle.wc_names.proofs.Lists.{same_found}
use Rattle.wc_view_changes.specs.{declared_in, declared_of, seen, IsSide, lines_between, side_after, unit_numbered, variable_lines}
use Rattle.wc_view_changes.proofs.Between.{side_is}
use Rattle.wc_view_changes.proofs.Units.{at_there, in_unit}
use Rattle.wc_view_changes.proofs.Variables.{all_reported, block_lines, elementary_type, instance_line, into, no_lines, passed_lines, plain_line, standard_type}
use Rattle.wc_view_changes.proofs.Wholes.{by_declarations, declaration_reported}
use Rattle.wc_view_changes.proofs.describing.+describing.Goals as goal
use Rattle.wc_view_changes.proofs.describing.+describing.Goals.{describe_variable-then-units-block-via-else-units-block+then-size-eq0, describe_variable-then-units-block-via-then-units-block}

pub describe_declaration-loop-word-preserved : goal.describe_declaration-loop-word-preserved
describe_declaration-loop-word-preserved t c = record {
  names = c.in_ok-describe_variable.ensures.names ∙ c.loop-word.invariant.names;
  lines = λ side before u h at.
      let literal = c.literal_of-literal.ensures in
      let said = rw c.loop-word.invariant.names at (c.in_ok-describe_variable.ensures.lines side before u c.args.declaration.now.initial h at literal) in
      let so = c.loop-word.invariant.lines side before u h at in
      grind (arith, common_steps);
}

pub describe_unit-loop-declaration-preserved : goal.describe_unit-loop-declaration-preserved
describe_unit-loop-declaration-preserved t c = record {
  names = c.in_ok-describe_declaration.ensures.names ∙ c.loop-declaration.invariant.names;
  lines = λ side before u h at.
      let said = rw c.loop-declaration.invariant.names at (c.in_ok-describe_declaration.ensures.lines side before u h at) in
      let so = c.loop-declaration.invariant.lines side before u h at in
      grind (arith, common_steps);
}

pub describe_declaration-returns-clause-lines : goal.describe_declaration-returns-clause-lines
describe_declaration-returns-clause-lines t c = λ side before u h at.
    let d = c.args.declaration.now in
    let start = c.args.out.now.items in
    let f = λ (w : Word). variable_lines c.args.texts.pass side before u c.args.names.now.items (record { name = w.text.now; initial = d.initial }) in
    all_reported f start c.loop-word.out.items c.deref-word-items.result.now c.loop-word.word-index c.loop-word-test.false (c.loop-word.invariant.lines side before u h at)
    ∙ ap (λ words. start ++ flat_map f words) c.deref-word-items.ensures.value
    ∙ ap (λ x. start ++ x) (declaration_reported c.args.texts.pass side before u c.args.names.now.items d)

pub describe_unit-returns-clause-lines : goal.describe_unit-returns-clause-lines
describe_unit-returns-clause-lines t c = λ side before u h at.
    let start = c.args.out.now.items in
    let f = λ (d : Decl). lines_between c.args.texts.pass side before u c.args.names.now.items (declared_in d) in
    let units : c.deref.result.now ≡ c.args.texts.own.now.source.units.items = c.deref.ensures.value ∙ ap (λ s. s.units.items) c.source.ensures.source in
    let same = same_found c.deref.result.now c.args.texts.own.now.source.units.items c.args.units.unit u c.in-Some.u.now units
    (at_there c.args.texts.own.now.source c.args.units.unit before u at) c.in-Some.ensures.lookup.3.0 c.in-Some.ensures.lookup.1 in
    all_reported f start c.loop-declaration.out.items c.deref-declaration-items.result.now c.loop-declaration.declaration-index c.loop-declaration-test.false (c.loop-declaration.invariant.lines side before u h at)
    ∙ ap (λ ds. start ++ flat_map f ds) (c.deref-declaration-items.ensures.value ∙ ap (λ (v : CodeUnit). v.declarations.items) same)
    ∙ ap (λ x. start ++ x) (by_declarations c.args.texts.pass side before u c.args.names.now.items u.declarations.items)

pub describe_variable-returns-in_default-clause-lines : goal.describe_variable-returns-in_default-clause-lines
describe_variable-returns-in_default-clause-lines t c = λ side before u initial h at literal.
    no_lines c.args.texts.pass side before u c.args.names.now.items (record { name = c.args.name.now; initial = initial }) c.args.out.now.items
    (sym (in_unit c.args.texts.own.now.source c.args.units.unit before u _ _ c.tables.ensures.tables c.tables.ensures.occur at c.in_default.ensures.known))

pub describe_variable-returns-then-units-block-clause-lines : goal.describe_variable-returns-then-units-block-clause-lines
describe_variable-returns-then-units-block-clause-lines t c = λ side before u initial h at literal.
    let source = c.args.texts.own.now.source in
    let i = into source c.args.units.unit c.in-Block.block before u (name_of c.args.name.now) at
    (ap Some (sym c.in-Block.is) ∙ in_unit source c.args.units.unit before u _ _ c.tables.ensures.tables c.tables.ensures.occur at c.in-Some.ensures.declared) in
    elim c.then-units-block.branch [
      | describe_variable-then-units-block-via-then-units-block w ↦ absurd (omega (arith, i.below, w.if-units-block.true))
      | describe_variable-then-units-block-via-else-units-block+then-size-eq0 w ↦
          passed_lines source c.args.units.unit c.in-Block.block c.args.texts.pass side before u c.args.names.now.items c.args.name.now initial c.args.out.now.items i
          (sym (in_unit source c.in-Block.block i.code.earlier i.code.unit _ _ w.tables-else-units-block.ensures.tables w.tables-else-units-block.ensures.occur i.at w.size.ensures) ∙ w.if-size-eq0.true)
    ]

pub describe_variable-returns-in-Elementary-clause-lines : goal.describe_variable-returns-in-Elementary-clause-lines
describe_variable-returns-in-Elementary-clause-lines t c =
    on_ok c.describe_shape.result
    (λ w side before u initial h at literal.
    let source = c.args.texts.own.now.source in
    let typed = elementary_type (map unit_view before) (type_of (seen before u) (name_of c.args.name.now)) c.in-Elementary.kind
    (ap Some (sym c.in-Elementary.is) ∙ in_unit source c.args.units.unit before u _ _ c.tables.ensures.tables c.tables.ensures.occur at c.in-Some.ensures.declared) in
    (rw (c.as_slice.ensures.value, c.other_type.ensures side h) at (w side h (c.other_type.ensures side h)))
    ∙ ap (λ x. c.args.out.now.items ++ x) (plain_line c.args.texts.pass side before u c.args.names.now.items c.args.name.now initial c.in-Elementary.kind (store.Plain c.first_value.result) typed (c.first_value.ensures initial literal)))
    c.describe_shape.ensures.line

pub describe_variable-returns-in-Standard-clause-lines : goal.describe_variable-returns-in-Standard-clause-lines
describe_variable-returns-in-Standard-clause-lines t c =
    on_ok c.describe_shape-in-Standard.result
    (λ w side before u initial h at literal.
    let source = c.args.texts.own.now.source in
    let typed = standard_type (map unit_view before) (type_of (seen before u) (name_of c.args.name.now)) c.in-Standard.block
    (ap Some (sym c.in-Standard.is) ∙ in_unit source c.args.units.unit before u _ _ c.tables.ensures.tables c.tables.ensures.occur at c.in-Some.ensures.declared) in
    (rw (c.as_slice-in-Standard.ensures.value, c.other_type.ensures side h) at (w side h (c.other_type.ensures side h)))
    ∙ ap (λ x. c.args.out.now.items ++ x) (instance_line c.args.texts.pass side before u c.args.names.now.items c.args.name.now initial c.in-Standard.block typed))
    c.describe_shape-in-Standard.ensures.line

pub describe_variable-returns-in_ok-describe_unit-in-Block-clause-lines : goal.describe_variable-returns-in_ok-describe_unit-in-Block-clause-lines
describe_variable-returns-in_ok-describe_unit-in-Block-clause-lines t c = λ side before u initial h at literal.
    let source = c.args.texts.own.now.source in
    let n = name_of c.args.name.now in
    let following = side_after side n in
    let other = text_view c.args.texts.other.now.source in
    let i = into source c.args.units.unit c.in-Block.block before u n at (ap Some (sym c.in-Block.is) ∙ in_unit source c.args.units.unit before u _ _ c.tables.ensures.tables c.tables.ensures.occur at c.in-Some.ensures.declared) in
    let there = subst (λ k. IsSide other k following) (sym (c.unit_of.ensures ∙ ap unit_numbered (c.other_type.ensures side h))) (side_is other c.args.units.other side n h) in
    c.in_ok-describe_unit-in-Block.ensures.lines following i.code.earlier i.code.unit there i.at
    ∙ ap (λ p. c.args.out.now.items ++ lines_between c.args.texts.pass following i.code.earlier i.code.unit p (declared_of i.code.unit)) (c.in_ok-put_bytes-in-Block-2.ensures.bytes ∙ ap (λ p. p ++ (46 ∷ [])) c.in_ok-put_bytes-in-Block.ensures.bytes ∙ append_assoc c.args.names.now.items c.args.name.now (46 ∷ []))
    ∙ ap (λ x. c.args.out.now.items ++ x) (block_lines source c.args.units.unit c.in-Block.block c.args.texts.pass side before u c.args.names.now.items c.args.name.now initial i)
