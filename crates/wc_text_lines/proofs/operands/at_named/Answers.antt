use Rattle.std.proofs.Common.{sym, ◌∙◌}
use Rattle.wc_model.specs.Language.Views.{name_view}
use Rattle.wc_text_lines.proofs.LaterTokens.{named-other}
use Rattle.wc_text_lines.proofs.Outcomes.{ok-map}
use Rattle.wc_text_lines.specs.LineViews.{owner_view}
use Rattle.wc_text_lines.proofs.operands.at_named.Goals as goal

pub returns-in_default : goal.returns-in_default
returns-in_default c = ok-map c.after_whole_name.result (λ next h started setting colon.
    h started ∙ sym (named-other started (owner_view c.args.owner) (name_view c.args.name) setting c.args.token.line colon c.args.token.shape c.args.token.text.now c.in_default.not-Point)) c.after_whole_name.ensures
