use Rattle.wc_lexer.specs.Views.{token_view}
use Rattle.wc_model.specs.Text.Reading.{mark_of_token}
use Rattle.wc_text_lines.proofs.Outcomes.{some-map}
use Rattle.wc_text_bodies.proofs.ShortLines.{is_line_of}
use Rattle.wc_text_lines.specs.LineViews.{step_view}
use Rattle.wc_text_bodies.specs.Views.{position_view}
use Rattle.wc_text_lines.specs.Words.{operation_view}
use Rattle.wc_text_bodies.proofs.body_lines.step_at.Goals as goal

pub returns-in_ok-operation_at-in-Identifier : goal.returns-in_ok-operation_at-in-Identifier
returns-in_ok-operation_at-in-Identifier c =
    some-map c.step_with.result (λ step makes units. is_line_of (position_view units c.args.body.now) c.args.first (mark_of_token (token_view c.args.second))
    (operation_view c.in_ok-operation_at-in-Identifier.field-0) (step_view step) c.in-Identifier.is (c.in_ok-operation_at-in-Identifier.ensures units) makes) c.step_with.ensures
