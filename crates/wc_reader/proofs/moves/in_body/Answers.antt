-- The token's place leads to the state.
use Rattle.std.proofs.Common.{map, ◌∙◌}
use Rattle.wc_model.specs.Language.Views.{unit_view}
use Rattle.wc_text_lines.proofs.Outcomes.{ok-map}
use Rattle.wc_reader.proofs.moves.in_body.Goals as goal

pub place_move-requires : goal.place_move-requires
place_move-requires c = c.requires

pub body_state-requires : goal.body_state-requires
body_state-requires c = c.in_ok-next.ensures.counted

pub returns-clause-following : goal.returns-clause-following
returns-clause-following c =
    ok-map c.body_state.result (λ next h. h ∙ c.in_ok-next.ensures.following (map unit_view c.args.units.now.items)) c.body_state.ensures.following

pub returns-clause-counted : goal.returns-clause-counted
returns-clause-counted c = c.body_state.ensures.counted
