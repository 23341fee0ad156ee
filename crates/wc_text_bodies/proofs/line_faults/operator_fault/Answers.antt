use Rattle.std.proofs.Common.{is_some, ◌∙◌}
use Rattle.wc_laws_grammar.specs.{is_full, operation_of}
use Rattle.wc_text_bodies.proofs.FaultIf.{label-meets, no-label-meets}
use Rattle.wc_text_bodies.specs.Views.{position_view}
use Rattle.wc_text_lines.specs.Words.{symbol_view}
use Rattle.wc_text_bodies.proofs.line_faults.operator_fault.Goals as goal

pub returns-then-colon : goal.returns-then-colon
returns-then-colon c = λ units. rw c.if-colon.true (label-meets (is_some (operation_of (symbol_view c.args.token))) (is_full (position_view units c.args.body.now)) c.args.token.line)

pub returns-else-colon : goal.returns-else-colon
returns-else-colon c = λ units. rw c.if-colon.false (c.labelled_fault.ensures units ∙ no-label-meets (is_some (operation_of (symbol_view c.args.token))) (is_full (position_view units c.args.body.now)) c.args.token.line)
