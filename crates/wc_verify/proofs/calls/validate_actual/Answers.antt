use Rattle.std.proofs.Common.{[], ◌∷◌, Some, sym, subst, ◌∙◌}
use Rattle.wc_model.specs.Definitions.{actual_checks, reading_checks, suits_input, suits_output, writing_checks, asks, term_view}
use Rattle.wc_verify.specs.Seeing.{Finds}
use Rattle.wc_verify.proofs.Calling.{output_suits}
use Rattle.wc_verify.proofs.Found.{asked_as, joined}
use Rattle.wc_verify.proofs.calls.validate_actual.Goals as goal

pub returns-in-Into : goal.returns-in-Into
returns-in-Into c = λ scope m seen kind.
    let term = term_view c.args.operand.now in
    subst (λ direction. Finds (λ line. actual_checks scope line direction (Some m) term) c.first_of.result) (sym c.in-Into.is)
    (joined (λ line. reading_checks scope line term) (λ line. asks 402 line (suits_input scope (Some m) term) ∷ []) c.validate_reading.result c.unless.result c.first_of.result
    (c.validate_reading.ensures scope term seen)
    (asked_as 402 c.suits_input-suits.result (suits_input scope (Some m) term) c.unless.result c.unless.ensures (c.suits_input-suits.ensures scope m seen kind))
    c.first_of.ensures)

pub returns-in-OutOf : goal.returns-in-OutOf
returns-in-OutOf c = λ scope m seen kind.
    let term = term_view c.args.operand.now in
    subst (λ direction. Finds (λ line. actual_checks scope line direction (Some m) term) c.first_of-in-OutOf.result) (sym c.in-OutOf.is)
    (joined (λ line. writing_checks scope line term) (λ line. asks 402 line (suits_output scope (Some m) term) ∷ []) c.validate_writing.result c.unless-in-OutOf.result c.first_of-in-OutOf.result
    (c.validate_writing.ensures scope term seen)
    (asked_as 402 c.is_of_kind-suits.result (suits_output scope (Some m) term) c.unless-in-OutOf.result c.unless-in-OutOf.ensures (output_suits scope m term c.args.kind c.args.seen.kind kind seen.kind ∙ sym c.is_of_kind-suits.ensures))
    c.first_of-in-OutOf.ensures)
