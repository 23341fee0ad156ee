use Rattle.wc_model.proofs.Common.{◌≡◌, ◌+◌, [], ◌++◌, List, map, drop, get_or, false, append_assoc, ap, ◌∙◌, drop_all, flat_map}
use Rattle.wc_model.specs.Definitions.{Check, first_broken, term_checks, Assignment, ProgramUnit, assignment_view, term_view}
use Rattle.wc_model.specs.declared.operand.Operand.TheVariants.{Literal}
use Rattle.wc_model.specs.declared.operator.Direction.TheVariants.{Into}
use Rattle.wc_model.specs.declared.tree.Argument.{Argument}
use Rattle.wc_model.specs.declared.value.Value.TheVariants.{Bool as Truth}
use Rattle.wc_declare.proofs.Validation.{validates_on, validates_ok}
use Rattle.wc_names.proofs.Lists.{from_index_or}
use Rattle.wc_declare.proofs.body.validate_arguments.Goals as goal

-- the rules of arguments
abbrev asked : ProgramUnit → List Assignment → List Check
asked unit args = flat_map (λ a. term_checks unit a.actual) args

abbrev no_argument : Argument
no_argument = record { direction = Into; name = record { ref_ptr = (0, 0); now = [] }; value = Literal (Truth false) }

pub returns-in_err-validate_operand-clause-validated : goal.returns-in_err-validate_operand-clause-validated
returns-in_err-validate_operand-clause-validated c = λ unit rest block.
    let i = c.loop-argument.argument-index in
    let items = c.args.arguments.now in
    let argument = get_or items i no_argument in
    let left = map assignment_view (drop (i + 1) items) in
    let following = asked unit left ++ rest in
    let cut = from_index_or items i no_argument c.loop-argument-test.true in
    validates_on (Unit {0}) (Unit {0}) (first_broken (asked unit (map assignment_view items) ++ rest)) (first_broken (term_checks unit (term_view argument.value) ++ following)) (first_broken following) (first_broken rest) c.in_err-validate_operand.field-0.0 c.from_residual.result c.from_residual.ensures
    (c.loop-argument.invariant unit rest block ∙ ap (λ xs. first_broken (asked unit (map assignment_view xs) ++ rest)) cut ∙ ap first_broken (append_assoc (term_checks unit (term_view argument.value)) (asked unit left) rest))
    (c.in_err-validate_operand.ensures.validated unit following block)

pub loop-argument-preserved : goal.loop-argument-preserved
loop-argument-preserved c = λ unit rest block.
    let i = c.loop-argument.argument-index in
    let items = c.args.arguments.now in
    let argument = get_or items i no_argument in
    let left = map assignment_view (drop (i + 1) items) in
    let following = asked unit left ++ rest in
    let cut = from_index_or items i no_argument c.loop-argument-test.true in
    c.loop-argument.invariant unit rest block ∙ ap (λ xs. first_broken (asked unit (map assignment_view xs) ++ rest)) cut ∙ ap first_broken (append_assoc (term_checks unit (term_view argument.value)) (asked unit left) rest)
    ∙ validates_ok (first_broken (term_checks unit (term_view argument.value) ++ following)) (first_broken following) c.validate_operand.result c.in_ok-validate_operand.field-0 c.in_ok-validate_operand.was (c.validate_operand.ensures.validated unit following block)

pub returns-clause-validated : goal.returns-clause-validated
returns-clause-validated c = λ unit rest block.
    let end : drop c.loop-argument.argument-index c.args.arguments.now ≡ [] = drop_all c.loop-argument.argument-index c.args.arguments.now c.loop-argument-test.false in
    c.loop-argument.invariant unit rest block ∙ ap (λ xs. first_broken (asked unit (map assignment_view xs) ++ rest)) end
