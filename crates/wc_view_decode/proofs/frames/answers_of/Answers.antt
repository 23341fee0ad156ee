use Rattle.wc_model.proofs.Common.{◌∙◌, ◌≤◌, ◌-◌, length, sym, subst, drop, arith, length-drop, take_all}
use Rattle.wc_view_decode.proofs.Several.{LeavesRest, at_end, at_none, is_empty, is_not_empty, one_taken}
use Rattle.wc_view_decode.specs.AnswerBytes.{IsFirstAnswer}
use Rattle.wc_view_decode.proofs.frames.answers_of.Goals as goal

pub returns-in-None-clause-answers : goal.returns-in-None-clause-answers
returns-in-None-clause-answers c =
    at_none c.args.bytes.now c.loop-rest.answers.items c.loop-rest.rest.now
    (is_not_empty c.loop-rest.rest.now (sym c.is_empty.ensures ∙ c.loop-rest-test.true))
    (subst (λ found. IsFirstAnswer found c.loop-rest.rest.now) c.in-None.is c.first_answer.ensures) c.loop-rest.invariant

pub loop-rest-preserved : goal.loop-rest-preserved
loop-rest-preserved c =
    let first = subst (λ found. IsFirstAnswer found c.loop-rest.rest.now) c.in-Some.is c.first_answer.ensures in
    let taken = one_taken c.args.bytes.now c.loop-rest.answers.items c.in-Some.answer c.loop-rest.rest.now
    (is_not_empty c.loop-rest.rest.now (sym c.is_empty.ensures ∙ c.loop-rest-test.true))
    first c.loop-rest.invariant in
    let left = drop c.answer_length.result c.loop-rest.rest.now in
    let whole : length left ≤ length c.loop-rest.rest.now - c.answer_length.result = omega (arith, length-drop c.answer_length.result c.loop-rest.rest.now) in
    subst (λ rest. LeavesRest c.args.bytes.now c.push.new.self.items rest) (sym (take_all (length c.loop-rest.rest.now - c.answer_length.result) left whole))
    (subst (λ items. LeavesRest c.args.bytes.now items left) (sym c.in-Ok.ensures.items) (rw (c.answer_length.ensures first.0) taken))

pub returns-clause-answers : goal.returns-clause-answers
returns-clause-answers c =
    at_end c.args.bytes.now c.loop-rest.answers.items c.loop-rest.rest.now
    (is_empty c.loop-rest.rest.now (sym c.is_empty.ensures ∙ c.loop-rest-test.false)) c.loop-rest.invariant
