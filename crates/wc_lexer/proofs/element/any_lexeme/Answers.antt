use Rattle.std.proofs.Common.{◌∙◌, ap, sym, length-take-le}
use Rattle.wc_lexer.proofs.Reaches.{sees_fault, sees_token}
use Rattle.wc_lexer.proofs.element.any_lexeme.Goals as goal
use Rattle.wc_lexer.specs.Views.{validation_view, shape_view}

pub slice_bounds-shape-end : goal.slice_bounds-shape-end
slice_bounds-shape-end c = sym (length-take-le c.lexeme_length-count.result c.args.text.now c.lexeme_length-count.ensures.within)

pub returns-in-Ok-clause-sight : goal.returns-in-Ok-clause-sight
returns-in-Ok-clause-sight c =
    sees_token c.lexeme_length-count.result c.args.text.now (shape_view c.in-Ok.shape) c.lexeme_length-count.ensures.longest c.if-count-eq0.false (sym (ap validation_view c.in-Ok.is) ∙ c.shape.ensures)

pub returns-in-Err-clause-sight : goal.returns-in-Err-clause-sight
returns-in-Err-clause-sight c =
    sees_fault c.lexeme_length-count.result c.in-Err.number c.args.text.now c.lexeme_length-count.ensures.longest c.if-count-eq0.false (sym (ap validation_view c.in-Err.is) ∙ c.shape.ensures)
