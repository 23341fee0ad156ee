-- How the lines of a body may begin.
use Rattle.std.proofs.Common.{List, ◌∷◌, inl, inr}
use Rattle.std.specs.Prelude.{Some, ◌⊎◌}
use Rattle.wc_model.specs.Definitions.{Mark, LineEnd, ClosingBracket, IsSymbol, Lines, End, Alone, Plain, Nested, Language, ◌then◌, one, Setting, InParentheses, IsOn, symbol, label_in, instruction, opening, lines}
use Rattle.wc_laws_grammar.proofs.Languages.{given_first, given_are, regroup, ungroup, many_are}

-- lines whose first token is not a line end, and what follows them
abbrev pub starting : Setting → Lines → Language Mark → Language Mark
starting setting End second = second
starting setting (Alone label rest) second = label_in setting (Some label) then ((symbol LineEnd then lines setting rest) then second)
starting setting (Plain label line step rest) second = label_in setting label then ((instruction line step then (symbol LineEnd then lines setting rest)) then second)
starting setting (Nested label line operator x inside close rest) second =
    label_in setting label then ((opening line operator x then (lines InParentheses inside
    then (one (IsOn close (IsSymbol ClosingBracket)) then (symbol LineEnd then lines setting rest)))) then second)

-- If lines and what follows are spelled, the first token is a line end that is skipped, or a line begins with it, or what follows does.
pub lines_start : (setting : Setting) (ls : Lines) (second : List Mark → Type 0) (token : Mark) (tokens : List Mark)
    → (lines setting ls then second) (token ∷ tokens)
    → starting setting ls second (token ∷ tokens) ⊎ (IsSymbol LineEnd token × (lines setting ls then second) tokens)
lines_start setting End second token tokens h = many_are h
lines_start setting (Alone label rest) second token tokens h =
    elim (many_are (ungroup h)) [ inl s ↦ inl (ungroup s) | inr m ↦ inr (m.0, regroup m.1) ]
lines_start setting (Plain label line step rest) second token tokens h =
    let g = given_are h in
    elim (many_are (ungroup g.1)) [ inl s ↦ inl (ungroup s) | inr m ↦ inr (m.0, given_first g.0 (regroup m.1)) ]
lines_start setting (Nested label line operator x inside close rest) second token tokens h =
    let g = given_are h in
    elim (many_are (ungroup g.1)) [ inl s ↦ inl (ungroup s) | inr m ↦ inr (m.0, given_first g.0 (regroup m.1)) ]
