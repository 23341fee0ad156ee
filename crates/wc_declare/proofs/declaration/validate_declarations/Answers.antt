use Rattle.wc_model.proofs.Common.{◌≡◌, ◌+◌, ◌++◌, [], ◌∷◌, map, drop, append_assoc, refl, ap, sym, subst, ◌∙◌, drop_all, flat_map}
use Rattle.wc_model.specs.Definitions.{first_broken, positions_after, declaration_checks, names_declared, taken_by, taken_at_first, Declaration, ProgramUnit, declaration_view, unit_view}
use Rattle.wc_declare.proofs.DeclaredSoFar.{Declares, all_declared, asked_of, none_declared, one_declared}
use Rattle.wc_declare.proofs.Validation.{validates_on, validates_ok}
use Rattle.wc_names.proofs.Lists.{from_index}
use Rattle.wc_names.specs.Spelled.{spelled_in, spelled_in_table}
use Rattle.wc_declare.proofs.SpelledSoFar.{spelled_all, spelled_on}
use Rattle.wc_declare.proofs.declaration.validate_declarations.Goals as goal

pub loop-declaration-init : goal.loop-declaration-init
loop-declaration-init c = ((λ text before units empty. none_declared text before (unit_view c.args.unit.now) c.args.table.now (map declaration_view c.deref-declaration-items.result.now) empty), refl)

pub returns-in_err-validate_declaration-clause-validated : goal.returns-in_err-validate_declaration-clause-validated
returns-in_err-validate_declaration-clause-validated c = λ text before rest units empty.
    let i = c.loop-declaration.declaration-index in
    let items = c.deref-declaration-items.result.now in
    let d : Declaration = declaration_view c.declaration-item.result in
    let unit : ProgramUnit = unit_view c.args.unit.now in
    let cut = from_index items i c.declaration-item.result c.loop-declaration-test.true c.declaration-item.is in
    let left = map declaration_view (drop (i + 1) items) in
    let h : Declares text before unit c.loop-declaration.table (map declaration_view items) (d ∷ left) =
    subst (λ xs. Declares text before unit c.loop-declaration.table (map declaration_view items) (map declaration_view xs)) cut (c.loop-declaration.invariant.0 text before units empty) in
    let checks = declaration_checks text before (names_declared h.passed) (taken_by before (taken_at_first unit) h.passed) d in
    let more = flat_map (asked_of text before (taken_at_first unit)) (positions_after (d ∷ h.passed) left) ++ rest in
    validates_on (Unit {0}) (Unit {0}) _ (first_broken (checks ++ more)) (first_broken more) (first_broken rest) c.in_err-validate_declaration.field-0.0 c.from_residual.result c.from_residual.ensures
    (ap (λ xs. first_broken (flat_map (asked_of text before (taken_at_first unit)) (positions_after [] (map declaration_view xs)) ++ rest)) (sym c.deref-declaration-items.ensures.value) ∙ h.found rest
    ∙ ap first_broken (append_assoc checks (flat_map (asked_of text before (taken_at_first unit)) (positions_after (d ∷ h.passed) left)) rest))
    (c.in_err-validate_declaration.ensures.validated text before (names_declared h.passed) (taken_by before (taken_at_first unit) h.passed) more units h.names h.taken)

pub loop-declaration-preserved : goal.loop-declaration-preserved
loop-declaration-preserved c = (
  (λ text before units empty.
      let i = c.loop-declaration.declaration-index in
      let items = c.deref-declaration-items.result.now in
      let d : Declaration = declaration_view c.declaration-item.result in
      let unit : ProgramUnit = unit_view c.args.unit.now in
      let cut = from_index items i c.declaration-item.result c.loop-declaration-test.true c.declaration-item.is in
      let left = map declaration_view (drop (i + 1) items) in
      let h : Declares text before unit c.loop-declaration.table (map declaration_view items) (d ∷ left) =
      subst (λ xs. Declares text before unit c.loop-declaration.table (map declaration_view items) (map declaration_view xs)) cut (c.loop-declaration.invariant.0 text before units empty) in
      let known = names_declared h.passed in
      let t = taken_by before (taken_at_first unit) h.passed in
      one_declared text before unit c.loop-declaration.table c.validate_declaration.new.table (map declaration_view items) d left h
      (λ rest. validates_ok (first_broken (declaration_checks text before known t d ++ rest)) (first_broken rest) c.validate_declaration.result c.in_ok-validate_declaration.field-0 c.in_ok-validate_declaration.was
      (c.validate_declaration.ensures.validated text before known t rest units h.names h.taken))
      (c.in_ok-validate_declaration.ensures.taken text before t units h.taken)
      (c.in_ok-validate_declaration.ensures.held text before _ h.vs units h.held)
      c.in_ok-validate_declaration.ensures.names (c.in_ok-validate_declaration.ensures.different h.different) (c.in_ok-validate_declaration.ensures.small h.small) c.in_ok-validate_declaration.ensures.is_block),
  (let items = c.deref-declaration-items.result.now in
      let left = flat_map spelled_in (drop (c.loop-declaration.declaration-index + 1) items) in
      spelled_on (spelled_in_table c.args.table.now) (spelled_in_table c.loop-declaration.table) (spelled_in_table c.validate_declaration.new.table) (spelled_in c.declaration-item.result) left (flat_map spelled_in items)
      (ap (λ xs. spelled_in_table c.loop-declaration.table ++ flat_map spelled_in xs) (sym (from_index items c.loop-declaration.declaration-index c.declaration-item.result c.loop-declaration-test.true c.declaration-item.is)) ∙ c.loop-declaration.invariant.1)
      c.in_ok-validate_declaration.ensures.spelled),
)

pub returns-clause-validated : goal.returns-clause-validated
returns-clause-validated c = λ text before rest units empty.
    let end : drop c.loop-declaration.declaration-index c.deref-declaration-items.result.now ≡ [] = drop_all c.loop-declaration.declaration-index c.deref-declaration-items.result.now c.loop-declaration-test.false in
    let unit : ProgramUnit = unit_view c.args.unit.now in
    let h = subst (λ xs. Declares text before unit c.loop-declaration.table (map declaration_view c.deref-declaration-items.result.now) (map declaration_view xs)) end (c.loop-declaration.invariant.0 text before units empty) in
    ap (λ xs. first_broken (flat_map (asked_of text before (taken_at_first unit)) (positions_after [] (map declaration_view xs)) ++ rest)) (sym c.deref-declaration-items.ensures.value) ∙ h.found rest

pub returns-clause-table : goal.returns-clause-table
returns-clause-table c = λ text before units empty.
    let end : drop c.loop-declaration.declaration-index c.deref-declaration-items.result.now ≡ [] = drop_all c.loop-declaration.declaration-index c.deref-declaration-items.result.now c.loop-declaration-test.false in
    let unit : ProgramUnit = unit_view c.args.unit.now in
    let h = subst (λ xs. Declares text before unit c.loop-declaration.table (map declaration_view c.deref-declaration-items.result.now) (map declaration_view xs)) end (c.loop-declaration.invariant.0 text before units empty) in
    all_declared text before unit c.loop-declaration.table (subst (λ xs. Declares text before unit c.loop-declaration.table (map declaration_view xs) []) c.deref-declaration-items.ensures.value h)

pub returns-clause-spelled : goal.returns-clause-spelled
returns-clause-spelled c =
    let items = c.deref-declaration-items.result.now in
    let end : drop c.loop-declaration.declaration-index items ≡ [] = drop_all c.loop-declaration.declaration-index items c.loop-declaration-test.false in
    spelled_all (spelled_in_table c.args.table.now) (spelled_in_table c.loop-declaration.table) (flat_map spelled_in (drop c.loop-declaration.declaration-index items)) (flat_map spelled_in items)
    (ap (flat_map spelled_in) end) c.loop-declaration.invariant.1
    ∙ ap (λ xs. spelled_in_table c.args.table.now ++ flat_map spelled_in xs) c.deref-declaration-items.ensures.value
