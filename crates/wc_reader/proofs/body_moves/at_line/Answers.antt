-- Whether a parenthesis is open says whether there is an innermost.
use Rattle.std.proofs.Common.{sym, ap, ◌∙◌}
use Rattle.wc_laws_grammar.specs.Moves.{start_move}
use Rattle.wc_text_bodies.proofs.Openings.{innermost_of}
use Rattle.wc_text_lines.proofs.Outcomes.{ok-map}
use Rattle.wc_text_bodies.specs.Views.{position_view}
use Rattle.wc_text_lines.specs.Words.{symbol_view}
use Rattle.wc_reader.proofs.FirstTokens.{line-other}
use Rattle.wc_reader.proofs.Units.{none_open, some_open}
use Rattle.wc_reader.proofs.body_moves.at_line.Goals as goal

pub at_body_line-requires : goal.at_body_line-requires
at_body_line-requires c = c.requires

pub at_inside_line-requires : goal.at_inside_line-requires
at_inside_line-requires c = c.requires

pub returns-then-is_empty-clause-following : goal.returns-then-is_empty-clause-following
returns-then-is_empty-clause-following c =
    let none = none_open c.args.body.now.openings.items c.args.body.now.openings.len c.args.body.now.openings.ok.0 (sym c.is_empty.ensures ∙ c.if-is_empty.true) in
    ok-map c.at_body_line.result (λ next h units. h units
    ∙ sym (line-other (position_view units c.args.body.now) c.args.token.line c.args.colon c.args.token.shape c.args.token.text.now c.in_default.not-LineEnd ∙ ap (λ os. start_move (position_view units c.args.body.now) os (symbol_view c.args.token) c.args.token.line c.args.colon) none)) c.at_body_line.ensures.following

pub returns-then-is_empty-clause-counted : goal.returns-then-is_empty-clause-counted
returns-then-is_empty-clause-counted c = c.at_body_line.ensures.counted

pub returns-else-is_empty-clause-following : goal.returns-else-is_empty-clause-following
returns-else-is_empty-clause-following c =
    let more = some_open c.args.body.now.openings.items c.args.body.now.openings.len c.args.body.now.openings.ok.0 (sym c.is_empty.ensures ∙ c.if-is_empty.false) in
    let some = innermost_of c.args.body.now.openings.items more in
    ok-map c.at_inside_line.result (λ next h units. h units some.innermost some.outer some.same
    ∙ sym (line-other (position_view units c.args.body.now) c.args.token.line c.args.colon c.args.token.shape c.args.token.text.now c.in_default.not-LineEnd ∙ ap (λ os. start_move (position_view units c.args.body.now) os (symbol_view c.args.token) c.args.token.line c.args.colon) some.same)) c.at_inside_line.ensures.following

pub returns-else-is_empty-clause-counted : goal.returns-else-is_empty-clause-counted
returns-else-is_empty-clause-counted c = c.at_inside_line.ensures.counted
