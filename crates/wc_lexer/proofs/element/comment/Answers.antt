use Rattle.std.proofs.Common.{ap, arith, drop, length, length-drop, length-take, ◌-◌, ◌≤◌}
use Rattle.wc_lexer.proofs.Reaches.{left_is_long}
use Rattle.wc_lexer.proofs.element.comment.Goals as goal
use Rattle.wc_laws_grammar.proofs.TokenSteps.{from_bracket_shrinks}
use Rattle.wc_model.specs.Text.Blanks.{from_bracket}

pub returns-in-42-clause-within : goal.returns-in-42-clause-within
returns-in-42-clause-within c =
    let left = c.from_bracket.result.now in
    let filled : 1 ≤ length (from_bracket c.args.inside.now) = omega (arith, ap length c.from_bracket.ensures, c.in-42.len_at_least) in
    omega (arith, ap length c.from_bracket.ensures, left_is_long c.args.inside.now filled, from_bracket_shrinks c.args.inside.now, length-take (length left - 1) (drop 1 left), length-drop 1 left)

pub overflow_sub-result : goal.overflow_sub-result
overflow_sub-result c =
    let left = c.from_bracket.result.now in
    omega (arith, ap length c.from_bracket.ensures, from_bracket_shrinks c.args.inside.now, length-take (length left - 1) (drop 1 left), length-drop 1 left)
