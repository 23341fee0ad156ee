use Rattle.std.proofs.Common.{sym, ◌∙◌}
use Rattle.wc_text_lines.specs.LineViews.{formal_view}
use Rattle.wc_text_lines.proofs.LaterTokens.{value-other}
use Rattle.wc_text_lines.proofs.Outcomes.{ok-map}
use Rattle.wc_text_lines.specs.LineViews.{listed_view}
use Rattle.wc_text_lines.proofs.calls.at_value.Goals as goal

pub returns-in_default : goal.returns-in_default
returns-in_default c = ok-map c.at_operand.result (λ next h started setting colon.
    h started ∙ sym (value-other started (listed_view c.args.call) (formal_view c.args.formal) c.args.token.line c.args.token.shape c.args.token.text.now c.in_default.not-LineEnd)) c.at_operand.ensures
