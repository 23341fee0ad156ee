-- Each place moves as its view does.
use Rattle.std.proofs.Common.{sym, ap, ◌∙◌}
use Rattle.wc_laws_grammar.specs.Moves.{move}
use Rattle.wc_text_bodies.specs.Views.{position_view}
use Rattle.wc_text_lines.proofs.Outcomes.{ok-map}
use Rattle.wc_text_lines.specs.Words.{symbol_view}
use Rattle.wc_reader.proofs.body_moves.place_move.Goals as goal
use Rattle.wc_reader.specs.TextViews.{line_place_view}

pub at_line-requires : goal.at_line-requires
at_line-requires c = c.requires

pub along_line-requires : goal.along_line-requires
along_line-requires c = c.requires

pub returns-in-AtLine-clause-following : goal.returns-in-AtLine-clause-following
returns-in-AtLine-clause-following c =
    ok-map c.at_line.result (λ next h units. h units
    ∙ sym (ap (λ p. move (line_place_view (position_view units c.args.body.now) p) (symbol_view c.args.token) c.args.token.line c.args.colon) c.in-AtLine.is)) c.at_line.ensures.following

pub returns-in-AtLine-clause-counted : goal.returns-in-AtLine-clause-counted
returns-in-AtLine-clause-counted c = c.at_line.ensures.counted

pub returns-in-OnLine-clause-following : goal.returns-in-OnLine-clause-following
returns-in-OnLine-clause-following c =
    ok-map c.along_line.result (λ next h units. h units c.args.colon
    ∙ sym (ap (λ p. move (line_place_view (position_view units c.args.body.now) p) (symbol_view c.args.token) c.args.token.line c.args.colon) c.in-OnLine.is)) c.along_line.ensures.following

pub returns-in-OnLine-clause-counted : goal.returns-in-OnLine-clause-counted
returns-in-OnLine-clause-counted c = c.along_line.ensures.counted

pub returns-in-Closed-clause-following : goal.returns-in-Closed-clause-following
returns-in-Closed-clause-following c = λ units.
    c.after_closing.ensures (position_view units c.args.body.now) c.args.token.line c.args.colon
    ∙ sym (ap (λ p. move (line_place_view (position_view units c.args.body.now) p) (symbol_view c.args.token) c.args.token.line c.args.colon) c.in-Closed.is)
