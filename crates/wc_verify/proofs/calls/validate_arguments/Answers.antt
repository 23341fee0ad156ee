use Rattle.wc_model.proofs.Common.{ℕ, ◌+◌, ◌<◌, false, List, [], ◌∷◌, ◌++◌, length, map, drop, get_or, ap, sym, subst, ◌∙◌, append_assoc, flat_map}
use Rattle.wc_model.specs.Definitions.{argument_checks, first_broken, positions_after, positions_of, members_of, Name, Assignment, assignment_view}
use Rattle.wc_model.specs.declared.operand.Operand.TheVariants.{Literal}
use Rattle.wc_model.specs.declared.operator.Direction.TheVariants.{Into}
use Rattle.wc_model.specs.declared.tree.Argument.{Argument}
use Rattle.wc_model.specs.declared.value.Value.TheVariants.{Bool as Truth}
use Rattle.wc_names.specs.declared.declared_type.DeclaredType.{DeclaredType}
use Rattle.wc_names.specs.declared.kept.Tables.{Tables}
use Rattle.wc_verify.proofs.Calling.{ArgumentsAfter, at_first, one_after}
use Rattle.wc_declare.proofs.Validation.{validates_on, validates_ok}
use Rattle.wc_names.proofs.Lists.{from_index_or}
use Rattle.wc_verify.proofs.calls.validate_arguments.Goals as goal

-- the arguments that are left begin with this one
abbrev one : Argument
one = record { direction = Into; name = record { ref_ptr = (0, 0); now = [] }; value = Literal (Truth false) }

begin : (tables : Tables) (unit : ℕ) (declared : DeclaredType) (line : ℕ) (names : List Name) (all : List Assignment) (items : List Argument) (i : ℕ) → i < length items →
    ArgumentsAfter tables unit declared line names all (map assignment_view (drop i items)) → ArgumentsAfter tables unit declared line names all (assignment_view (get_or items i one) ∷ map assignment_view (drop (i + 1) items))
begin tables unit declared line names all items i below h = subst (λ xs. ArgumentsAfter tables unit declared line names all (map assignment_view xs)) (from_index_or items i one below) h

pub loop-argument-init : goal.loop-argument-init
loop-argument-init c =
    let all = map assignment_view c.args.arguments.now in
    subst (λ names. ArgumentsAfter c.args.tables.now c.args.unit c.args.declared c.args.line names all all) (sym c.new-names.ensures) (at_first c.args.tables.now c.args.unit c.args.declared c.args.line all)

pub returns-in_err-validate_argument-clause-validated : goal.returns-in_err-validate_argument-clause-validated
returns-in_err-validate_argument-clause-validated c = λ scope type rest is num.
    let items = c.args.arguments.now in
    let i = c.loop-argument.argument-index in
    let all = map assignment_view items in
    let a = assignment_view (get_or items i one) in
    let left = map assignment_view (drop (i + 1) items) in
    let checks = argument_checks scope c.args.line (members_of scope.before type) in
    let h = begin c.args.tables.now c.args.unit c.args.declared c.args.line c.loop-argument.names all items i c.loop-argument-test.true c.loop-argument.invariant in
    let more = flat_map checks (positions_after (a ∷ h.before) left) ++ rest in
    validates_on (Unit {0}) (Unit {0}) (first_broken (flat_map checks (positions_of all) ++ rest)) (first_broken (checks (record { before = h.before; item = a; following = left }) ++ more)) (first_broken more) (first_broken rest) c.in_err-validate_argument.field-0.0 c.from_residual.result c.from_residual.ensures
    (h.found scope type rest is num ∙ ap first_broken (append_assoc (checks (record { before = h.before; item = a; following = left })) (flat_map checks (positions_after (a ∷ h.before) left)) rest))
    (c.in_err-validate_argument.ensures.validated scope type h.before left more is num h.held)

pub loop-argument-preserved : goal.loop-argument-preserved
loop-argument-preserved c =
    let items = c.args.arguments.now in
    let i = c.loop-argument.argument-index in
    let all = map assignment_view items in
    let a = assignment_view (get_or items i one) in
    let left = map assignment_view (drop (i + 1) items) in
    let h = begin c.args.tables.now c.args.unit c.args.declared c.args.line c.loop-argument.names all items i c.loop-argument-test.true c.loop-argument.invariant in
    one_after c.args.tables.now c.args.unit c.args.declared c.args.line c.loop-argument.names c.validate_argument.new.names all a left h
    (λ scope type before following rest is num held. validates_ok (first_broken (argument_checks scope c.args.line (members_of scope.before type) (record { before = before; item = a; following = following }) ++ rest)) (first_broken rest) c.validate_argument.result c.in_ok-validate_argument.field-0 c.in_ok-validate_argument.was
    (c.validate_argument.ensures.validated scope type before following rest is num held))
    c.in_ok-validate_argument.ensures.held
