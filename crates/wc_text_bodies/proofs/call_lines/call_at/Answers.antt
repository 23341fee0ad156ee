use Rattle.std.proofs.Common.{subst}
use Rattle.wc_text_bodies.proofs.CallLists.{begins_call_of}
use Rattle.wc_text_bodies.specs.Several.{Begins}
use Rattle.wc_text_bodies.specs.Views.{position_view}
use Rattle.wc_text_lines.specs.Words.{operation_view}
use Rattle.wc_text_bodies.proofs.call_lines.call_at.Goals as goal

pub returns-in-Calls : goal.returns-in-Calls
returns-in-Calls c = λ units.
    rw (c.word.ensures.spelled, c.new.ensures.items) (begins_call_of (position_view units c.args.body.now) c.args.operator c.args.instance c.args.opening c.args.input c.in-Calls.condition
    c.in-Identifier-Identifier-Opening-Identifier.is-0 c.in-Identifier-Identifier-Opening-Identifier.is-1 c.in-Identifier-Identifier-Opening-Identifier.is-2
    c.in-Identifier-Identifier-Opening-Identifier.is-3 (subst (λ operation. Begins (position_view units c.args.body.now) c.args.operator.text.now (operation_view operation)) c.in-Calls.is (c.in_ok-condition-in-Identifier-Identifier-Opening-Identifier.ensures units)))
