-- Each state moves as its view does.
use Rattle.std.proofs.Common.{map, sym, ap, ◌∙◌, subst}
use Rattle.wc_laws_grammar.specs.Moves.{move}
use Rattle.wc_model.specs.Language.Views.{unit_view}
use Rattle.wc_text_lines.proofs.Outcomes.{ok-map}
use Rattle.wc_text_lines.specs.Words.{symbol_view}
use Rattle.wc_reader.proofs.moves.text_move.Goals as goal
use Rattle.wc_reader.specs.TextViews.{IsStateCounted, state_view}

pub in_body-requires : goal.in_body-requires
in_body-requires c = subst (λ s. IsStateCounted s) c.in-InBody.is c.requires

pub returns-in-Outside-clause-following : goal.returns-in-Outside-clause-following
returns-in-Outside-clause-following c =
    c.outside.ensures.following (map unit_view c.args.units.now.items) c.args.colon
    ∙ sym (ap (λ s. move (state_view (map unit_view c.args.units.now.items) s) (symbol_view c.args.token) c.args.token.line c.args.colon) c.in-Outside.is)

pub returns-in-Outside-clause-counted : goal.returns-in-Outside-clause-counted
returns-in-Outside-clause-counted c = c.outside.ensures.counted

pub returns-in-Unnamed-clause-following : goal.returns-in-Unnamed-clause-following
returns-in-Unnamed-clause-following c =
    c.at_name.ensures.following (map unit_view c.args.units.now.items) c.args.colon
    ∙ sym (ap (λ s. move (state_view (map unit_view c.args.units.now.items) s) (symbol_view c.args.token) c.args.token.line c.args.colon) c.in-Unnamed.is)

pub returns-in-Unnamed-clause-counted : goal.returns-in-Unnamed-clause-counted
returns-in-Unnamed-clause-counted c = c.at_name.ensures.counted

pub returns-in-Declaring-clause-following : goal.returns-in-Declaring-clause-following
returns-in-Declaring-clause-following c =
    ok-map c.in_section.result (λ next h. h (map unit_view c.args.units.now.items)
    ∙ sym (ap (λ s. move (state_view (map unit_view c.args.units.now.items) s) (symbol_view c.args.token) c.args.token.line c.args.colon) c.in-Declaring.is)) c.in_section.ensures.following

pub returns-in-Declaring-clause-counted : goal.returns-in-Declaring-clause-counted
returns-in-Declaring-clause-counted c = c.in_section.ensures.counted

pub returns-in-InBody-clause-following : goal.returns-in-InBody-clause-following
returns-in-InBody-clause-following c =
    ok-map c.in_body.result (λ next h. h
    ∙ sym (ap (λ s. move (state_view (map unit_view c.args.units.now.items) s) (symbol_view c.args.token) c.args.token.line c.args.colon) c.in-InBody.is)) c.in_body.ensures.following

pub returns-in-InBody-clause-counted : goal.returns-in-InBody-clause-counted
returns-in-InBody-clause-counted c = c.in_body.ensures.counted
