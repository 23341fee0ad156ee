use Rattle.std.proofs.Common.{false, sym, ap, ◌∙◌}
use Rattle.wc_laws_grammar.specs.Moves.{body_move, started_line}
use Rattle.wc_reader.proofs.FirstTokens.{body-colon, body-other, body-word}
use Rattle.wc_text_lines.proofs.Outcomes.{ok-map}
use Rattle.wc_text_lines.specs.Words.{symbol_view}
use Rattle.wc_text_bodies.specs.Views.{position_view}
use Rattle.wc_reader.proofs.body_moves.at_body_line.Goals as goal

pub returns-then-colon-clause-following : goal.returns-then-colon-clause-following
returns-then-colon-clause-following c = ok-map c.on_line.result (λ next h units. let p = position_view units c.args.body.now in
    h units ∙ (ap (started_line p) c.at_start.ensures ∙ (sym (body-colon p c.args.token.line c.args.token.shape c.args.token.text.now)
    ∙ sym (ap (λ colon. body_move p (symbol_view c.args.token) c.args.token.line colon) c.if-colon.true)))) c.on_line.ensures.following

pub returns-in-Identifier-clause-following : goal.returns-in-Identifier-clause-following
returns-in-Identifier-clause-following c = ok-map c.at_body_word.result (λ next h units. let p = position_view units c.args.body.now in
    h units ∙ (sym (body-word p c.args.token.line c.args.token.shape c.args.token.text.now c.in-Identifier.is)
    ∙ sym (ap (λ colon. body_move p (symbol_view c.args.token) c.args.token.line colon) c.if-colon.false))) c.at_body_word.ensures.following

pub returns-in_default-clause-following : goal.returns-in_default-clause-following
returns-in_default-clause-following c = ok-map c.on_line-in_default.result (λ next h units. let p = position_view units c.args.body.now in
    h units ∙ (ap (started_line p) c.at_start-in_default.ensures ∙ (sym (body-other p c.args.token.line false c.args.token.shape c.args.token.text.now c.in_default.not-Identifier)
    ∙ sym (ap (λ colon. body_move p (symbol_view c.args.token) c.args.token.line colon) c.if-colon.false)))) c.on_line-in_default.ensures.following
