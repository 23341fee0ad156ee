use Rattle.std.proofs.Common.{sym, ◌∙◌}
use Rattle.wc_text_lines.proofs.LaterTokens.{bracketed-other}
use Rattle.wc_text_lines.proofs.Outcomes.{ok-map}
use Rattle.wc_text_lines.proofs.lines.at_bracketed.Goals as goal

pub returns-in_default : goal.returns-in_default
returns-in_default c = ok-map c.at_operand.result (λ next h started.
    h started ∙ sym (bracketed-other started c.args.operator c.args.token.line c.args.token.shape c.args.token.text.now c.in_default.not-LineEnd)) c.at_operand.ensures
