use Rattle.std.proofs.Common.{option_map, ap, sym, ◌∙◌}
use Rattle.wc_lexer.specs.Views.{token_view}
use Rattle.wc_model.specs.Definitions.{term_view, mark_of_token}
use Rattle.wc_text_bodies.proofs.ShortLines.{makes_operated}
use Rattle.wc_text_lines.specs.Words.{operating_view}
use Rattle.wc_text_bodies.proofs.body_lines.step_with.Goals as goal

pub returns-in_ok-operand_of-in-Operates-default : goal.returns-in_ok-operand_of-in-Operates-default
returns-in_ok-operand_of-in-Operates-default c =
    rw c.in-Operates-default.is-0
    (makes_operated (operating_view c.in-Operates-default.operating) (mark_of_token (token_view c.args.token)) (term_view c.in_ok-operand_of-in-Operates-default.field-0)
    (sym c.operand_of.ensures ∙ ap (option_map term_view) c.in_ok-operand_of-in-Operates-default.was))
