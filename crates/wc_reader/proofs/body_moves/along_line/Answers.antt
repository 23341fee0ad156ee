use Rattle.std.proofs.Common.{[], ap, ◌∙◌}
use Rattle.wc_laws_grammar.specs.Moves.{started_line}
use Rattle.wc_model.specs.Text.Positions.{setting_in}
use Rattle.wc_text_lines.proofs.Outcomes.{ok-map}
use Rattle.wc_text_bodies.specs.Views.{position_view, openings_view}
use Rattle.wc_reader.proofs.body_moves.along_line.Goals as goal

pub returns-clause-following : goal.returns-clause-following
returns-clause-following c =
    ok-map c.on_line.result (λ next h units colon.
    h units ∙ ap (started_line (position_view units c.args.body.now)) (c.in_ok-line.ensures (setting_in (openings_view [] c.args.body.now.openings.items)) colon)) c.on_line.ensures.following
