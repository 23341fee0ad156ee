use Rattle.wc_diag_places.proofs.Breaking.{argument_operand_tokens}
use Rattle.wc_diag_places.proofs.spans.found_in.Goals as goal

pub returns-clause-argument : goal.returns-clause-argument
returns-clause-argument c = λ scope is listed.
    argument_operand_tokens scope c.args.number c.args.tokens.now c.operand_of_call.result.now c.in_ok-call.call.from c.in_ok-call.call.count (c.in_ok-call.ensures scope is) c.operand_of_call.ensures.there
