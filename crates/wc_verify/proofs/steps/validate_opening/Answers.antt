use Rattle.std.proofs.Common.{sym, ap, not, [], ◌∷◌, ◌++◌}
use Rattle.wc_model.specs.Definitions.{divides, is_no_instance, opening_operand_checks, result_checks, asks}
use Rattle.wc_verify.proofs.Found.{joined, pair_found}
use Rattle.wc_verify.proofs.steps.validate_opening.Goals as goal

pub returns : goal.returns
returns c = λ scope term seen line rest.
    joined (λ line. opening_operand_checks scope line term ++ result_checks c.args.operator line c.args.kind) (λ line. asks 408 line (not (divides c.args.operator)) ∷ asks 402 line (is_no_instance scope term) ∷ []) c.first_of-before.result c.first_of-own.result c.first_of.result
    (joined (λ line. opening_operand_checks scope line term) (λ line. result_checks c.args.operator line c.args.kind) c.validate_opening_operand.result c.validate_result.result c.first_of-before.result (c.validate_opening_operand.ensures scope term seen) c.validate_result.ensures c.first_of-before.ensures)
    (λ line rest. pair_found 408 402 (not c.divides.result) c.is_no_instance.result (not (divides c.args.operator)) (is_no_instance scope term) c.unless.result c.unless-2.result c.first_of-own.result c.unless.ensures c.unless-2.ensures c.first_of-own.ensures (ap not (sym c.divides.ensures)) (c.is_no_instance.ensures scope term seen) line rest)
    c.first_of.ensures line rest
