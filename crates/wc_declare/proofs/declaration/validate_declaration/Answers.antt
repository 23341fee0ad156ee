use Rattle.std.proofs.Common.{◌++◌, length, map, sym, ap, subst, ◌∙◌}
use Rattle.wc_model.specs.Definitions.{first_broken, and_more, declaration_checks, initial_checks, names_are_new, places_of_type, capacity_checks, type_checks, declaration_view, name_view, word_view}
use Rattle.wc_declare.specs.SoFar.{HasTaken}
use Rattle.wc_names.specs.declared.declared_type.DeclaredType.{DeclaredType}
use Rattle.wc_declare.proofs.Validation.{validates_on, validates_ok, validates_same, on_ok, chunks}
use Rattle.wc_names.specs.Spelled.{spelled_in_table, spelled_where}
use Rattle.wc_declare.proofs.declaration.validate_declaration.Goals as goal

pub returns-in_err-declare_names-clause-validated : goal.returns-in_err-declare_names-clause-validated
returns-in_err-declare_names-clause-validated c = λ text before known t rest units same taken.
    let d = declaration_view c.args.declaration.now in
    let after_names = type_checks text before d ++ (initial_checks before d ++ (capacity_checks t (places_of_type before d.type_name.name) d.names ++ rest)) in
    validates_on (Unit {0}) (Unit {0}) (first_broken (declaration_checks text before known t d ++ rest)) (first_broken (names_are_new known d.names ++ after_names)) (first_broken after_names) (first_broken rest) c.in_err-declare_names.field-0.0 c.from_residual.result c.from_residual.ensures
    (chunks text before known t d rest) (c.in_err-declare_names.ensures.validated known after_names same)

pub returns-in_err-declared-clause-validated : goal.returns-in_err-declared-clause-validated
returns-in_err-declared-clause-validated c = λ text before known t rest units same taken.
    let d = declaration_view c.args.declaration.now in
    let after_type = initial_checks before d ++ (capacity_checks t (places_of_type before d.type_name.name) d.names ++ rest) in
    let after_names = type_checks text before d ++ after_type in
    validates_on DeclaredType (Unit {0}) (first_broken (declaration_checks text before known t d ++ rest)) (first_broken after_names) (first_broken after_type) (first_broken rest) c.in_err-declared.field-0.0 c.from_residual-in_err-declared.result c.from_residual-in_err-declared.ensures
    (chunks text before known t d rest
    ∙ validates_ok (first_broken (names_are_new known d.names ++ after_names)) (first_broken after_names) c.declare_names.result c.in_ok-declare_names.field-0 c.in_ok-declare_names.was (c.declare_names.ensures.validated known after_names same))
    (c.in_err-declared.ensures.validated text before after_type units)

pub returns-in_err-validate_initial-clause-validated : goal.returns-in_err-validate_initial-clause-validated
returns-in_err-validate_initial-clause-validated c = λ text before known t rest units same taken.
    let d = declaration_view c.args.declaration.now in
    let after_initial = capacity_checks t (places_of_type before d.type_name.name) d.names ++ rest in
    let after_type = initial_checks before d ++ after_initial in
    let after_names = type_checks text before d ++ after_type in
    validates_on (Unit {0}) (Unit {0}) (first_broken (declaration_checks text before known t d ++ rest)) (first_broken after_type) (first_broken after_initial) (first_broken rest) c.in_err-validate_initial.field-0.0 c.from_residual-in_err-validate_initial.result c.from_residual-in_err-validate_initial.ensures
    (chunks text before known t d rest
    ∙ validates_ok (first_broken (names_are_new known d.names ++ after_names)) (first_broken after_names) c.declare_names.result c.in_ok-declare_names.field-0 c.in_ok-declare_names.was (c.declare_names.ensures.validated known after_names same)
    ∙ validates_ok (first_broken after_names) (first_broken after_type) c.validate_type.result c.in_ok-declared.declared c.in_ok-declared.was (c.validate_type.ensures.validated text before after_type units))
    (c.in_err-validate_initial.ensures.validated before after_initial (c.in_ok-declared.ensures.declared text before units))

pub returns-clause-validated : goal.returns-clause-validated
returns-clause-validated c = λ text before known t rest units same taken.
    let d = declaration_view c.args.declaration.now in
    let after_initial = capacity_checks t (places_of_type before d.type_name.name) d.names ++ rest in
    let after_type = initial_checks before d ++ after_initial in
    let after_names = type_checks text before d ++ after_type in
    let typed = c.in_ok-declared.ensures.declared text before units in
    validates_same (first_broken (declaration_checks text before known t d ++ rest)) (first_broken (capacity_checks t c.width.result d.names ++ rest)) (first_broken rest) c.declare_variables.result
    (chunks text before known t d rest
    ∙ validates_ok (first_broken (names_are_new known d.names ++ after_names)) (first_broken after_names) c.declare_names.result c.in_ok-declare_names.field-0 c.in_ok-declare_names.was (c.declare_names.ensures.validated known after_names same)
    ∙ validates_ok (first_broken after_names) (first_broken after_type) c.validate_type.result c.in_ok-declared.declared c.in_ok-declared.was (c.validate_type.ensures.validated text before after_type units)
    ∙ validates_ok (first_broken after_type) (first_broken after_initial) c.validate_initial.result c.in_ok-validate_initial.field-0 c.in_ok-validate_initial.was (c.validate_initial.ensures.validated before after_initial typed)
    ∙ ap (λ w. first_broken (capacity_checks t w d.names ++ rest)) (sym (c.width.ensures text before d.type_name.name units typed)))
    (c.declare_variables.ensures.validated t rest (record { variables = taken.variables; places = taken.places }))

pub returns-clause-taken : goal.returns-clause-taken
returns-clause-taken c = on_ok c.declare_variables.result c.declare_variables.ensures.taken (λ holds text before t units taken.
    let name = name_view c.args.declaration.now.type_name in
    subst (λ w. HasTaken (and_more t (length (map word_view c.args.declaration.now.names.items)) w) c.declare_variables.new.table) (c.width.ensures text before name units (c.in_ok-declared.ensures.declared text before units))
    (holds t (record { variables = taken.variables; places = taken.places })))

pub returns-clause-held : goal.returns-clause-held
returns-clause-held c = on_ok c.declare_variables.result c.declare_variables.ensures.held (λ holds text before first vs units h.
    let name = name_view c.args.declaration.now.type_name in
    let typed = c.in_ok-declared.ensures.declared text before units in
    holds before first vs typed (sym (c.width.ensures text before name units typed)) c.in_ok-declared.ensures.allowed (record { rows = h.rows; size = h.size; fields = h.fields }))

pub returns-clause-spelled : goal.returns-clause-spelled
returns-clause-spelled c = on_ok c.declare_variables.result c.declare_variables.ensures.spelled (λ holds.
    holds ∙ ap (λ plain. spelled_in_table c.args.table.now ++ spelled_where plain c.args.declaration.now.names.items) c.in_ok-declared.ensures.plain)
