use Rattle.std.proofs.Common.{sym, [], ◌∷◌, ◌++◌}
use Rattle.wc_model.specs.Definitions.{divisor_checks, reading_checks, result_checks, suits_result, asks, term_view}
use Rattle.wc_verify.proofs.Found.{asked_as, joined}
use Rattle.wc_verify.proofs.steps.validate_apply.Goals as goal

pub returns : goal.returns
returns c = λ scope seen line rest.
    let term = term_view c.args.operand.now in
    joined (λ line. reading_checks scope line term ++ result_checks c.args.operator line c.args.kind ++ divisor_checks c.args.operator line term) (λ line. asks 402 line (suits_result scope c.args.operator term c.args.kind) ∷ []) c.first_of-divided.result c.unless.result c.first_of.result
    (joined (λ line. reading_checks scope line term ++ result_checks c.args.operator line c.args.kind) (λ line. divisor_checks c.args.operator line term) c.first_of-before.result c.validate_divisor.result c.first_of-divided.result
    (joined (λ line. reading_checks scope line term) (λ line. result_checks c.args.operator line c.args.kind) c.validate_reading.result c.validate_result.result c.first_of-before.result (c.validate_reading.ensures scope term seen) c.validate_result.ensures c.first_of-before.ensures)
    c.validate_divisor.ensures c.first_of-divided.ensures)
    (asked_as 402 c.suits_result.result (suits_result scope c.args.operator term c.args.kind) c.unless.result c.unless.ensures (sym (c.suits_result.ensures scope seen)))
    c.first_of.ensures line rest
