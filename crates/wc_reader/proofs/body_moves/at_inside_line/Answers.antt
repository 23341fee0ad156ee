use Rattle.std.proofs.Common.{false, sym, ap, ◌∙◌}
use Rattle.wc_laws_grammar.specs.Moves.{started_line}
use Rattle.wc_reader.proofs.FirstTokens.{inside-other}
use Rattle.wc_text_lines.proofs.Outcomes.{ok-map}
use Rattle.wc_text_bodies.specs.Views.{position_view}
use Rattle.wc_reader.proofs.body_moves.at_inside_line.Goals as goal

pub returns-in_default : goal.returns-in_default
returns-in_default c = record {
  following = ok-map c.on_line.result (λ next h units innermost outer e.
      h units ∙ (ap (started_line (position_view units c.args.body.now)) (c.at_start_inside.ensures false)
      ∙ sym (inside-other (position_view units c.args.body.now) innermost outer c.args.token.line c.args.token.shape c.args.token.text.now c.in_default.not-Closing))) c.on_line.ensures.following;
  counted = c.on_line.ensures.counted;
}
