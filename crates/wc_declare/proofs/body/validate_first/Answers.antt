use Rattle.std.proofs.Common.{◌≡◌, List, Some, ◌++◌, option_map, refl, ap, ◌∙◌}
use Rattle.wc_model.specs.Definitions.{Check, first_broken, ProgramUnit, Term, operand_checks, term_checks, term_view}
use Rattle.wc_declare.proofs.Validation.{validates_same}
use Rattle.wc_declare.proofs.body.validate_first.Goals as goal

pub returns-in-Some-clause-validated : goal.returns-in-Some-clause-validated
returns-in-Some-clause-validated c = λ unit rest block.
    validates_same (first_broken (operand_checks unit (option_map term_view c.args.operand.now) ++ rest)) (first_broken (term_checks unit (term_view c.in-Some.operand) ++ rest)) (first_broken rest) c.validate_operand.result
    (ap (λ o. first_broken (operand_checks unit (option_map term_view o) ++ rest)) c.in-Some.is ∙ only unit (term_view c.in-Some.operand) rest) (c.validate_operand.ensures.validated unit rest block)
  where
    only : (unit : ProgramUnit) (term : Term) (rest : List Check) → first_broken (operand_checks unit (Some term) ++ rest) ≡ first_broken (term_checks unit term ++ rest)
    only unit term rest = refl
